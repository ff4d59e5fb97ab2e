use Rattle.lent.proofs.fit.range_ascends.Given as goal
use mathlib.Core.List.{[]}
use Rattle.lent.specs.Alone.{bases_alone}
use Rattle.shape.proofs.FitScans.{RangeScan}

abbrev pub invariant-loop-i : goal.invariant-loop-i
invariant-loop-i l = RangeScan (bases_alone [] l.base_attributes l.base_values) l.first l.n l.i l.last
