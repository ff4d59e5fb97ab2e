use Rattle.info.proofs.look_ups.narrowed.Given as goal
use Prim.Native.Nat.{◌+◌}
use Rattle.info.specs.LookUps.{Bounds}

abbrev pub invariant-loop-left : goal.invariant-loop-left
invariant-loop-left l = Bounds l.b l.at l.w l.n l.id l.low (l.low + l.left)

abbrev pub decreases-loop-left : goal.decreases-loop-left
decreases-loop-left l = l.left
