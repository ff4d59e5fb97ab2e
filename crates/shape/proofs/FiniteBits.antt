-- A float is finite where its exponent's bits are not all ones.
use Prim.Native.Nat.{ℕ, zero, suc, ◌+◌, ◌*◌, ◌/◌, ◌%◌, ◌^◌, ◌≤◌, ◌<◌}
use native.Mathlib.Omega.{arith}
use mathlib.Core.Path.{◌≡◌, refl, ap, ◌∙◌}
use mathlib.Core.Bool.{Bool, true, false, not, cond}
use lib.Dec.{eqb, ltb, leb}
use lib.Ieee.{Float, nan, inf, fin, binary64, odd, of_fields, of_bits}
use lib.Ieee.Exact.{HasValue, odd_sign}
use borrow.Author.Tests.{ltb-true, ltb-false, eq-eqb, ne_eqb}
use lib.IntN.{pos}
use lib.ListN.{length, get_or}
use Rattle.laws.specs.Floats.{finite, zero_f}
use Rattle.laws.proofs.Maps.{same_default}
use Rattle.rules.specs.Sheet.{Fit}
use Rattle.rules.specs.declared.BaseAttribute.{BaseAttribute}
use Rattle.info.specs.Sound.{Nth}

has_value : (x : Float) (s : Bool) (a c : ℕ) → HasValue x s a c → finite x ≡ true
unfolding finite
has_value nan s a c v = absurd v
has_value (inf t) s a c v = absurd v
has_value (fin t m e) s a c v = refl

not_finite : (s k : Bool) → finite (cond k (inf s) nan) ≡ false
unfolding finite
not_finite s true = refl
not_finite s false = refl

fields-finite : (s : Bool) (x t : ℕ) → finite (of_fields binary64 s x t) ≡ not (eqb x 2047)
unfolding of_fields
fields-finite s zero t = has_value (odd 53 s t 0 1074) s (t * 1) (2 ^ 1074) (odd_sign 53 s t 0 1074)
fields-finite s (suc y) t = go (eqb (suc y) 2047)
  where
    go : (b : Bool) → finite (cond b (cond (eqb t 0) (inf s) nan) (odd 53 s (2 ^ 52 + t) y 1074)) ≡ not b
    go true = not_finite s (eqb t 0)
    go false = has_value (odd 53 s (2 ^ 52 + t) y 1074) s ((2 ^ 52 + t) * 2 ^ y) (2 ^ 1074) (odd_sign 53 s (2 ^ 52 + t) y 1074)

exponent : (m : ℕ) → m < 9223372036854775808 → not (eqb (m / 4503599627370496) 2047) ≡ ltb m 9218868437227405312
exponent m h = go (ltb m 9218868437227405312) refl
  where
    go : (b : Bool) → ltb m 9218868437227405312 ≡ b → not (eqb (m / 4503599627370496) 2047) ≡ ltb m 9218868437227405312
    go true e = let l = ltb-true m 9218868437227405312 e in rw (e, ne_eqb (m / 4503599627370496) 2047 (λ q. omega arith)) refl
    go false e = let l = ltb-false m 9218868437227405312 e in rw (e, eq-eqb (m / 4503599627370496) 2047 (omega arith)) refl

pub bits-finite : (n : ℕ) → finite (of_bits binary64 n) ≡ ltb (n % 9223372036854775808) 9218868437227405312
unfolding of_bits
bits-finite n =
    fields-finite (leb (2 ^ 63) n) (n % 9223372036854775808 / 4503599627370496) (n % 4503599627370496)
    ∙ exponent (n % 9223372036854775808) (omega arith)

-- a base attribute by its place
abbrev pub nobody : BaseAttribute
nobody = record { attribute_id = pos 0; value = zero_f }

pub base_nth : (f : Fit) (i : ℕ) → i < length f.bases → Nth f.bases i (get_or f.bases i nobody)
base_nth f i h d = same_default f.bases i nobody d h
