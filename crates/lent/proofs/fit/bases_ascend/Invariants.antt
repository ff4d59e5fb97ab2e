use Rattle.lent.proofs.fit.bases_ascend.Given as goal
use lib.ListN.{length}
use Rattle.lent.specs.Alone.{bases_alone}
use Rattle.shape.proofs.Scans.{Each}
use Rattle.laws.specs.Lists.{every?}
use Rattle.shape.specs.Ranges.{range_ascends}

abbrev pub invariant-loop-i : goal.invariant-loop-i
invariant-loop-i l = Each (range_ascends (bases_alone l.objects l.base_attributes l.base_values)) (every? (range_ascends (bases_alone l.objects l.base_attributes l.base_values)) (bases_alone l.objects l.base_attributes l.base_values).objects) (bases_alone l.objects l.base_attributes l.base_values).objects (length l.objects) l.i
