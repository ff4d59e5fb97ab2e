use Rattle.search.proofs.narrowed.Given as goal
use Prim.Native.Nat.{◌+◌, ◌/◌, ◌≤◌}
use native.Mathlib.Nat.{zero-add}
use native.Mathlib.Omega.{arith}
use mir.Syntax.{w32}
use mir.Val.{to_z}
use lib.ListN.{length}
use Rattle.search.specs.Bounds.{Lower}
use Rattle.search.proofs.Steps.{lower_start, lower_own, lower_narrowed, told_less}

abbrev pub invariant-loop-left : goal.invariant-loop-left
invariant-loop-left l = (l.low + l.left ≤ length l.rows) × Lower l.rows l.id l.low (l.low + l.left)

abbrev pub decreases-loop-left : goal.decreases-loop-left
decreases-loop-left l = l.left
