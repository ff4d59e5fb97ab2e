use Rattle.lent.proofs.book.attributes_good.Given as goal
use lib.ListN.{length}
use Rattle.lent.specs.Alone.{attributes_alone}
use Rattle.shape.proofs.BookScans.{AttributeScan}

abbrev pub invariant-loop-i : goal.invariant-loop-i
invariant-loop-i l = AttributeScan (attributes_alone l.attributes l.defaults) (length l.attributes) l.i l.last
