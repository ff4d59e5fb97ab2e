use Rattle.lines.proofs.rows.Given as goal
use Rattle.std.proofs.Common.{◌-◌, length}
use Rattle.lines.proofs.Rowed.{Laying}

abbrev pub invariant-loop-at : goal.invariant-loop-at
invariant-loop-at g l = Laying g.L.Line.reader l.text l.initial.out l.out l.at l.count

abbrev pub decreases-loop-at : goal.decreases-loop-at
decreases-loop-at g l = length l.out - l.count
