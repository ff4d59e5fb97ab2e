use Rattle.lent.proofs.book.effects_good.Given as goal
use lib.ListN.{length}
use Rattle.lent.specs.Alone.{effects_alone}
use Rattle.shape.proofs.BookScans.{EffectScan}

abbrev pub invariant-loop-i : goal.invariant-loop-i
invariant-loop-i l = EffectScan (effects_alone l.effects l.modifiers) (length l.effects) (length l.modifiers) l.i l.last
