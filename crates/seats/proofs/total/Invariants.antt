use Rattle.seats.proofs.total.Given as goal
use Rattle.seats.proofs.Loops.{Summing}

abbrev pub invariant-loop-s : goal.invariant-loop-s
invariant-loop-s l = Summing l.fn.all l.sum l.s-index
