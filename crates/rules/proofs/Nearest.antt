-- What the count of a finite value is: the nearest hundredth, halves away from zero. The value is m * up e / down e.
use Prim.Native.Nat.{ℕ, ◌+◌, ◌*◌, ◌/◌, ◌≤◌, ◌<◌}
use native.Mathlib.Nat.{div-mul-le_self, lt-div-mul-add}
use native.Mathlib.Omega.{arith}
use mathlib.Core.Path.{◌≡◌, refl}
use mathlib.Core.Bool.{Bool}
use lib.IntN.{ℤ}
use lib.Ieee.{fin, up, down}
use lib.Ieee.Fits.{down_pos}
use Rattle.rules.specs.Number.{rounded_at, hundredths_of}

-- c hundredths are at most half a hundredth more than a / d, and less than half a hundredth less: 2 * c - 1 ≤ 200 * a / d < 2 * c + 1
pub record Nearest (a d c : ℕ) : Type 0 where
  pub not_above : c * (2 * d) ≤ a * 200 + d
  pub not_below_lem : a * 200 + d < c * (2 * d) + 2 * d

by_halves : (a d : ℕ) → 0 < d → Nearest a d ((a * 200 + d) / (2 * d))
by_halves a d p = record { not_above = div-mul-le_self (a * 200 + d) (2 * d); not_below_lem = lt-div-mul-add (doubles d p) }
  where
    doubles : (d : ℕ) → 0 < d → 0 < 2 * d
    doubles d h = omega arith

-- what is printed of a finite value is its nearest count of hundredths: no count is nearer, and of two that are as near the greater is taken
pub nearest : (s : Bool) (m : ℕ) (e : ℤ) → (c : ℕ) × (hundredths_of (fin s m e) ≡ rounded_at s c) × Nearest (m * up e) (down e) c
unfolding hundredths_of
nearest s m e = ((m * up e * 200 + down e) / (2 * down e), refl, by_halves (m * up e) (down e) (down_pos e))
