use Rattle.reading.proofs.stretches.past.Given as goal
use Rattle.reading.proofs.Laying.{Passed}

abbrev pub invariant-loop-i : goal.invariant-loop-i
invariant-loop-i l = Passed l.rows l.object l.first l.i
