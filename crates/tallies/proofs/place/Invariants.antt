use Rattle.tallies.proofs.place.Given as goal
use Prim.Native.Nat.{◌+◌, ◌-◌, ◌<◌}
use Rattle.tallies.specs.Blocks.{Bounds}

abbrev pub invariant-loop-left : goal.invariant-loop-left
invariant-loop-left l = (0 < l.left) × Bounds l.keys l.key l.low (l.low + l.left - 1)

abbrev pub decreases-loop-left : goal.decreases-loop-left
decreases-loop-left l = l.left
