-- A loop that sets one element after another to zero: what is left to clear decides.
use Prim.Native.Nat.{ℕ, zero, suc, ◌+◌, ◌-◌, ◌≤◌, ◌<◌}
use native.Mathlib.Nat.{not-suc-le-zero, le_of_suc-le-suc}
use native.Mathlib.Numerals.{add-one}
use native.Mathlib.Omega.{arith}
use mathlib.Core.Path.{◌≡◌, refl, sym, ap, ◌∙◌}
use mathlib.Core.List.{List, [], ◌∷◌, ◌++◌}
use lib.ListN.{length, take, set, replicate, length-set}
use Rattle.clear.specs.Ends.{cleared}

-- a column c, which was c₀, is zero from place n to before i
pub record Clearing {B : Type 0} (z : B) (n : ℕ) (c₀ c : List B) (i : ℕ) : Type 0 where
  pub left : cleared z i c ≡ cleared z n c₀
  pub long : length c ≡ length c₀

module _ {B : Type 0} (z : B) where
  shorter : (m k : ℕ) → suc m - suc k ≡ m - k
  shorter m k = omega arith

  next : (c : List B) (i : ℕ) → i < length c → cleared z (suc i) (set c i z) ≡ cleared z i c
  unfolding cleared
  next [] i h = absurd (not-suc-le-zero h)
  next (x ∷ c) zero h = rw (shorter (length c) 0, same) refl
    where
      same : suc (length c) - 0 ≡ suc (length c - 0)
      same = omega arith
  next (x ∷ c) (suc i) h =
      rw (shorter (length (set c i z)) (suc i), shorter (length c) i) (ap (λ (l : List B). x ∷ l) (next c i (le_of_suc-le-suc h)))

  none : (c : List B) (i : ℕ) → length c ≤ i → cleared z i c ≡ c
  unfolding cleared
  none [] zero h = refl
  none [] (suc i) h = rw nothing refl
    where
      nothing : 0 - suc i ≡ 0
      nothing = omega arith
  none (x ∷ c) zero h = absurd (not-suc-le-zero h)
  none (x ∷ c) (suc i) h = rw (shorter (length c) i) (ap (λ (l : List B). x ∷ l) (none c i (le_of_suc-le-suc h)))

  pub clearing_none : (n : ℕ) (c : List B) → Clearing z n c c n
  clearing_none n c = record { left = refl; long = refl }

  -- one element more
  pub clearing_next : {n i : ℕ} {c₀ c c' : List B} → Clearing z n c₀ c i → i < length c₀ → c' ≡ set c i z → Clearing z n c₀ c' (i + 1)
  clearing_next {n} {i} {c₀} {c} {c'} K h e =
      record {
        left = rw (add-one, e) (next c i (rw K.long h) ∙ K.left);
        long = ap length e ∙ length-set c i z ∙ K.long;
      }

  -- the end is reached
  pub clearing_end : {n i : ℕ} {c₀ c : List B} → Clearing z n c₀ c i → length c₀ ≤ i → c ≡ cleared z n c₀
  clearing_end {n} {i} {c₀} {c} K h = sym (none c i (rw K.long h)) ∙ K.left
