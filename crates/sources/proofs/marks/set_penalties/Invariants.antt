use Rattle.sources.proofs.marks.set_penalties.Given as goal
use Prim.Native.Nat.{◌≤◌}
use mathlib.Core.Path.{◌≡◌}
use lib.ListN.{length}
use Rattle.sources.proofs.Changing.{AllMarked}

abbrev pub invariant-loop-p : goal.invariant-loop-p
invariant-loop-p l = ((l.p ≤ l.n) × (l.n ≤ 8)) × (length l.b.sources ≡ 8) × (length l.floats ≡ length l.initial.floats) × AllMarked l.run l.first l.b.sources l.n l.initial.floats l.p l.floats
