use Rattle.reading.proofs.turns.projected_end.Given as goal
use Rattle.rules.specs.Sheet.{fit_of}
use Rattle.reading.proofs.Passing.{Passing}

abbrev pub invariant-loop-i : goal.invariant-loop-i
invariant-loop-i l = Passing (fit_of l.fit l.pairs) l.objects l.i
