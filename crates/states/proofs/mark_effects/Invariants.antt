use Rattle.states.proofs.mark_effects.Given as goal
use Rattle.rules.specs.Sheet.{book_of}
use Rattle.states.proofs.Marking.{Marking, effect_slot, IdleEffect}

abbrev pub invariant-loop-i : goal.invariant-loop-i
invariant-loop-i l = Marking effect_slot IdleEffect (book_of l.book l.pairs).effects l.marks l.i
