use Rattle.reading.proofs.stretches.set_stretches.Given as goal
use Rattle.reading.proofs.Laying.{Laying}

abbrev pub invariant-loop-object : goal.invariant-loop-object
invariant-loop-object l = Laying l.rows l.stretches l.object l.first
