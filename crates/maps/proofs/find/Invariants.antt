use Rattle.maps.proofs.find.Given as goal
use Prim.Native.Nat.{ℕ}
use mathlib.Core.Bool.{Bool}
use mathlib.Core.List.{List}
use Rattle.maps.specs.Maps.{Mapped}
use Rattle.maps.proofs.Index.{Seeking}

abbrev pub invariant-loop-m : goal.invariant-loop-m
invariant-loop-m l = (location has : ℕ → ℕ → Bool) (ks : List ℕ) → Mapped l.width location has ks l.words l.heads → Seeking ks l.key l.m

abbrev pub decreases-loop-m : goal.decreases-loop-m
decreases-loop-m l = l.m
