-- A column's first values, one after another, become NaN.
use Prim.Native.Nat.{ℕ, zero, suc, ◌+◌, ◌≤◌, ◌<◌}
use native.Mathlib.Omega.{arith}
use mathlib.Core.Path.{◌≡◌, refl, sym, ap, ◌∙◌}
use mathlib.Core.List.{List, [], ◌∷◌, ◌++◌}
use lib.Ieee.{Float, nan, binary64, of_bits, div}
use lib.ListN.{length, replicate, drop, set, length-set}
use native.Mathlib.Nat.{not-suc-le-zero, le_of_suc-le-suc}

-- 0.0 / 0.0
pub no_number : div binary64 (of_bits binary64 0) (of_bits binary64 0) ≡ nan
unfolding div of_bits
no_number = refl

-- k of the values are NaN
pub record Blanked (n : ℕ) (c₀ : List Float) (k : ℕ) (c : List Float) : Type 0 where
  pub within : k ≤ n
  pub room : n ≤ length c₀
  pub long : length c ≡ length c₀
  pub is : c ≡ replicate k nan ++ drop k c₀

pub begun : (n : ℕ) (c₀ : List Float) → n ≤ length c₀ → Blanked n c₀ 0 c₀
begun n c₀ h = record { within = omega arith; room = h; long = refl; is = refl }

next : (k : ℕ) (c₀ : List Float) → k < length c₀ → set (replicate k nan ++ drop k c₀) k nan ≡ replicate (suc k) nan ++ drop (suc k) c₀
next k [] h = absurd (not-suc-le-zero h)
next zero (x ∷ c) h = refl
next (suc k) (x ∷ c) h = ap (λ (l : List Float). nan ∷ l) (next k c (le_of_suc-le-suc h))

module _ {n k : ℕ} {c₀ c : List Float} (b : Blanked n c₀ k c) where
  pub one_more : {x : Float} → k < n → x ≡ nan → Blanked n c₀ (k + 1) (set c k x)
  one_more {x} h e =
      let same : suc k ≡ k + 1 = omega arith in
      record {
        within = omega (arith, h);
        room = b.room;
        long = length-set c k x ∙ b.long;
        is = rw (e, b.is) (next k c₀ (omega (arith, h, b.room)) ∙ ap (λ (j : ℕ). replicate j nan ++ drop j c₀) same);
      }

  pub done : n ≤ k → c ≡ replicate n nan ++ drop n c₀
  done h =
      let same : k ≡ n = omega (arith, h, b.within) in
      b.is ∙ ap (λ (j : ℕ). replicate j nan ++ drop j c₀) same
