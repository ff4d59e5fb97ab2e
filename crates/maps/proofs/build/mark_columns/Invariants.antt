use Rattle.maps.proofs.build.mark_columns.Given as goal
use Prim.Native.Nat.{ℕ, ◌≤◌}
use mathlib.Core.Path.{◌≡◌}
use mathlib.Core.Bool.{Bool}
use mathlib.Core.List.{List}
use lib.ListN.{length}
use Rattle.maps.specs.Maps.{Mapped, and_columns}

abbrev pub invariant-loop-c : goal.invariant-loop-c
invariant-loop-c l = (l.c ≤ 6) × ((length l.words ≡ length l.initial.words) × ((location has : ℕ → ℕ → Bool) (ks hs : List ℕ) → Mapped l.width location has ks l.initial.words hs → Mapped l.width (and_columns location l.row l.c l.i) has ks l.words hs))
