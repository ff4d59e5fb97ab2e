use Rattle.lent.proofs.fit.objects_good.Given as goal
use lib.ListN.{length}
use Rattle.lent.specs.Alone.{objects_alone}
use Rattle.shape.proofs.FitScans.{ObjectScan}

abbrev pub invariant-loop-i : goal.invariant-loop-i
invariant-loop-i l = ObjectScan (objects_alone l.objects l.base_attributes l.ids) (length l.objects) l.i l.last
