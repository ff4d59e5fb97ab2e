use Rattle.lent.proofs.book.type_effects_good.Given as goal
use lib.ListN.{length}
use Rattle.lent.specs.Alone.{type_effects_alone}
use Rattle.shape.proofs.BookScans.{TypeEffectScan}

abbrev pub invariant-loop-i : goal.invariant-loop-i
invariant-loop-i l = TypeEffectScan (type_effects_alone l.type_effects) (length l.type_effects) l.i l.last
