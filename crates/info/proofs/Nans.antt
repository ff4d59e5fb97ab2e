-- Bits that are a NaN's give the one NaN.
use Prim.Native.Nat.{ℕ, ◌<◌, ◌≤◌, ◌%◌}
use mathlib.Core.Path.{◌≡◌, refl, sym, ◌∙◌}
use mathlib.Core.Bool.{true, false}
use native.Mathlib.Omega.{arith}
use borrow.Author.Tests.{lt-ltb, le-ltb}
use lib.Ieee.{Float, nan, inf, fin, is_nan, nan_bits, binary64, of_bits, div}
use lib.Ieee.Bits.{nan_bits_is, nan_bits_above}

one-nan : (x : Float) → is_nan x ≡ true → x ≡ nan
unfolding is_nan
one-nan nan e = refl
one-nan (inf s) e = let z : ◌≡◌ {A = ℕ} 0 1 = cc in absurd (omega arith)
one-nan (fin s m k) e = let z : ◌≡◌ {A = ℕ} 0 1 = cc in absurd (omega arith)

-- the code's quotient is a NaN
pub quotient : div binary64 (of_bits binary64 0) (of_bits binary64 0) ≡ nan
unfolding div of_bits
quotient = refl

module _ (n : ℕ) where
  pub above : 9218868437227405312 < n % 9223372036854775808 → of_bits binary64 n ≡ nan
  above h = one-nan _ (sym (nan_bits_is binary64 n) ∙ nan_bits_above binary64 n ∙ lt-ltb _ _ h)

  pub below : n % 9223372036854775808 ≤ 9218868437227405312 → nan_bits binary64 n ≡ false
  below h = nan_bits_above binary64 n ∙ le-ltb _ _ h
