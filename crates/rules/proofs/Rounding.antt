-- The marked examples of M-101, by computation.
use Rattle.std.specs.Prelude.{None, Option}
use mathlib.Core.Path.{◌≡◌, refl}
use mathlib.Core.Bool.{true, false}
use Prim.Native.Nat.{ℕ}
use lib.Ieee.{binary64, of_bits}
use Rattle.rules.specs.declared.Hundredths.{Hundredths}
use Rattle.rules.specs.Number.{hundredths_of, rounded}

abbrev of : ℕ → Option Hundredths
of n = hundredths_of (of_bits binary64 n)

pub record Examples : Type 0 where
  pub eighth : of 0x3fc0_0000_0000_0000 ≡ rounded false 13
  pub minus_eighth : of 0xbfc0_0000_0000_0000 ≡ rounded true 13
  pub below_a_half : of 0x3ff0_147a_e147_ae14 ≡ rounded false 100
  pub before_0_005 : of 0x3f74_7ae1_47ae_147a ≡ rounded false 0
  pub minus_0_005 : of 0xbf74_7ae1_47ae_147b ≡ rounded true 1
  pub minus_0_004 : of 0xbf70_624d_d2f1_a9fc ≡ rounded false 0
  pub last_figure : of 0x426d_1a94_a1ff_ffd7 ≡ rounded false 99_999_999_999_999
  pub first_star : of 0x426d_1a94_a1ff_ffd8 ≡ None

pub examples : Examples
unfolding hundredths_of of_bits
examples =
    record {
      eighth = refl;
      minus_eighth = refl;
      below_a_half = refl;
      before_0_005 = refl;
      minus_0_005 = refl;
      minus_0_004 = refl;
      last_figure = refl;
      first_star = refl;
    }
