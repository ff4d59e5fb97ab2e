use Rattle.reading.proofs.entries.operators_in.Given as goal
use Rattle.reading.proofs.Decodes.{Marks}

abbrev pub invariant-loop-i : goal.invariant-loop-i
invariant-loop-i l = Marks l.entries l.first l.end l.i l.marks
