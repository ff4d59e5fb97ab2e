-- Functions that agree where a test passes; and signed numbers of 32 bits.
use Prim.Native.Nat.{ℕ, ◌^◌}
use mathlib.Core.Path.{◌≡◌, sym, subst}
use mathlib.Core.Bool.{true}
use lib.IntN.{ℤ}
use lib.Signed.{mag}
use mir.Syntax.{w32}
use mir.Val.{Fits, SFits, to_z}
use mir.Facts.{sfits_to_z}
use borrow.Author.Tests.{lt-ltb, ltb-true}
use Rattle.rows.specs.Tallies.{narrow?}

pub narrow_fits : (a : ℤ) → narrow? a ≡ true → SFits w32 a
narrow_fits a h = record { sfits = ltb-true (mag a) (2 ^ 31) h }

pub fits_narrow : (a : ℤ) → SFits w32 a → narrow? a ≡ true
fits_narrow a f = lt-ltb (mag a) (2 ^ 31) f.sfits

-- what was read from 32 bits has 32 bits
pub read_fits : {x : ℕ} {r : ℤ} → Fits w32 x → r ≡ to_z w32 x → SFits w32 r
read_fits f e = subst (SFits w32) (sym e) (sfits_to_z f)
