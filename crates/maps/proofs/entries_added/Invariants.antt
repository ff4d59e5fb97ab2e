use Rattle.maps.proofs.entries_added.Given as goal
use Prim.Native.Nat.{◌*◌, ◌≤◌}
use mathlib.Core.Path.{◌≡◌}
use Rattle.maps.specs.Words.{ones_cut}

abbrev pub invariant-loop-w : goal.invariant-loop-w
invariant-loop-w l = (l.w ≤ l.n) × ((l.total ≤ l.w * 64) × (l.total ≡ ones_cut l.words l.a l.b l.w))
