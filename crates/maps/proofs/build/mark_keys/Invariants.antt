use Rattle.maps.proofs.build.mark_keys.Given as goal
use Prim.Native.Nat.{ℕ, ◌≤◌}
use mathlib.Core.Path.{◌≡◌}
use mathlib.Core.Bool.{Bool}
use mathlib.Core.List.{List}
use lib.ListN.{length}
use Rattle.maps.specs.Maps.{Mapped}
use Rattle.maps.proofs.Building.{Keyed}

abbrev pub invariant-loop-key : goal.invariant-loop-key
invariant-loop-key l = (l.key-index ≤ 7) × ((length l.words ≡ length l.initial.words) × ((length l.heads ≡ length l.initial.heads) × ((location has : ℕ → ℕ → Bool) (ks : List ℕ) → Mapped l.width location has ks l.initial.words l.initial.heads → l.maps ≡ length ks → Keyed l.width location has ks l.key-items l.i l.key-index l.n l.words l.heads)))
