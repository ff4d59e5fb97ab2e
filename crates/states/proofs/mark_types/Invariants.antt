use Rattle.states.proofs.mark_types.Given as goal
use Rattle.rules.specs.Sheet.{book_of}
use Rattle.states.proofs.Marking.{Marking, type_slot, IdleType}

abbrev pub invariant-loop-i : goal.invariant-loop-i
invariant-loop-i l = Marking type_slot (IdleType (book_of l.book l.pairs)) (book_of l.book l.pairs).type_effects l.marks l.i
