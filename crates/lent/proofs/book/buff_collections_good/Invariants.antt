use Rattle.lent.proofs.book.buff_collections_good.Given as goal
use lib.ListN.{length}
use Rattle.lent.specs.Alone.{buff_collections_alone}
use Rattle.shape.proofs.BookScans.{BuffCollectionScan}

abbrev pub invariant-loop-i : goal.invariant-loop-i
invariant-loop-i l = BuffCollectionScan (buff_collections_alone l.buff_collections l.modifiers) (length l.buff_collections) (length l.modifiers) l.i l.last
