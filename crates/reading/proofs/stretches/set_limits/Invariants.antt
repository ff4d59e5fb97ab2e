use Rattle.reading.proofs.stretches.set_limits.Given as goal
use Rattle.rules.specs.Sheet.{book_of}
use Rattle.reading.proofs.Limiting.{Marking}

abbrev pub invariant-loop-i : goal.invariant-loop-i
invariant-loop-i l = Marking (book_of l.book l.pairs).attributes l.marks l.i
