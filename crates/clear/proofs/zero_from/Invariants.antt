use Rattle.clear.proofs.Zeros.{Clearing}
use Rattle.clear.proofs.zero_from.Given as goal

abbrev pub invariant-loop-i : goal.invariant-loop-i
invariant-loop-i g l = Clearing l.zero l.from l.initial.column l.column l.i
