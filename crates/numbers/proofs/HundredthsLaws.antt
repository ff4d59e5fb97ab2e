-- The hundredths of a float, by its bit pattern.
use Rattle.std.proofs.Common.{◌≡◌, ℕ, zero, suc, ◌+◌, ◌*◌, ◌/◌, ◌%◌, ◌^◌, ◌<◌, ◌≤◌, min, Bool, true, false, cond, not, ◌&&◌, T, eqb, leb, sym, refl, ap, ◌∙◌, subst, true≢false, mul_comm, add-mul, mul-one, mul_left_comm, arith, lit≤, pow_pos, le-ltb, lt-ltb, eqb-true, le-leb, None}
use native.Mathlib.Nat.{mul-mul-mul_comm}
use lib.Ieee.{Float, nan, inf, fin, binary64, up, down, odd, of_fields, of_bits, to_bits, fits, is_nan, ne, eq}
use lib.Ieee.Bits.{of_bits-to_bits}
use lib.Ieee.Compare.{differs_from_itself}
use lib.Ieee.Exact.{HasValue, odd_sign}
use lib.Ieee.Fits.{down_pos}
use lib.Ieee.Nearest.{div_same}
use borrow.Author.Tests.{lt-leb}
use Rattle.rules.specs.Number.{rounded_at, rounded}
use Rattle.rules.specs.Number.{hundredths_of}
use Rattle.numbers.specs.Counted.{units_of, count_of}
use Rattle.numbers.proofs.Counts.{high}

-- ---- the three answers, from the held count r of c

module _ (s : Bool) (r c : ℕ) (e : r ≡ min c (10 ^ 14)) where
  star_at : 10 ^ 14 ≤ r → None ≡ rounded_at s c
  star_at l = rw (le-leb (10 ^ 14) c (omega arith))

  zero-at : r < 10 ^ 14 → r ≡ 0 → rounded false r ≡ rounded_at s c
  zero-at l z =
      let k : c ≡ r = omega arith in
      rw (lt-leb (10 ^ 14) c (omega arith), le-ltb 0 c (omega arith), no_sign s, k)
    where
      no_sign : (s : Bool) → (s && false) ≡ false
      no_sign true = refl
      no_sign false = refl

  some_at : r < 10 ^ 14 → (r ≡ 0 → ⊥) → rounded s r ≡ rounded_at s c
  some_at l z =
      let k : c ≡ r = omega arith in
      let p : 0 < r = omega arith in
      rw (lt-leb (10 ^ 14) c (omega arith), lt-ltb 0 c (omega arith), own_sign s, k)
    where
      own_sign : (s : Bool) → (s && true) ≡ s
      own_sign true = refl
      own_sign false = refl

-- two fractions that are the same have the same nearest hundredth
crossed : (n d a c : ℕ) → n * c ≡ a * d → (n * 200 + d) * (2 * c) ≡ (a * 200 + c) * (2 * d)
crossed n d a c e =
    ap (λ (k : ℕ). (n * 200 + d) * k) (mul_comm 2 c)
    ∙ spread n d c
    ∙ ap (λ (k : ℕ). k * (200 * 2) + d * (c * 2)) e
    ∙ ap (λ (k : ℕ). a * d * (200 * 2) + k) (mul_left_comm d c 2)
    ∙ sym (spread a c d)
    ∙ ap (λ (k : ℕ). (a * 200 + c) * k) (mul_comm d 2)
  where
    spread : (n d c : ℕ) → (n * 200 + d) * (c * 2) ≡ n * c * (200 * 2) + d * (c * 2)
    spread n d c = add-mul (n * 200) d (c * 2) ∙ ap (λ (k : ℕ). k + d * (c * 2)) (mul-mul-mul_comm n 200 c 2)

doubles : (d : ℕ) → 0 < d → 0 < 2 * d
doubles d h = omega arith

-- of a value that is a / c
of_value : (x : Float) (s : Bool) (a c : ℕ) → 0 < c → HasValue x s a c → hundredths_of x ≡ rounded_at s ((a * 200 + c) / (2 * c))
unfolding hundredths_of
of_value nan s a c p v = absurd v
of_value (inf t) s a c p v = absurd v
of_value (fin t m e) s a c p v =
    ap (λ (u : Bool). rounded_at u ((m * up e * 200 + down e) / (2 * down e))) v.0
    ∙ ap (λ (n : ℕ). rounded_at s n)
    (div_same (m * up e * 200 + down e) (2 * down e) (a * 200 + c) (2 * c) (doubles (down e) (down_pos e)) (doubles c p)
    (crossed (m * up e) (down e) a c v.1))

-- of a sign, an exponent's field and the digits below it
of_fields_lem : (s : Bool) (x t : ℕ) → T (not (is_nan (of_fields binary64 s x t))) → hundredths_of (of_fields binary64 s x t) ≡ rounded_at s ((units_of x t * 200 + 2 ^ 1074) / (2 * 2 ^ 1074))
unfolding of_fields
of_fields_lem s zero t f =
    of_value (odd 53 s t 0 1074) s (t * 1) (2 ^ 1074) (pow_pos 1074) (odd_sign 53 s t 0 1074) ∙ ap (λ (n : ℕ). rounded_at s ((n * 200 + 2 ^ 1074) / (2 * 2 ^ 1074))) (mul-one t)
of_fields_lem s (suc y) t f = go (eqb (suc y) 2047) (eqb t 0) refl f
  where
    infinite : eqb (suc y) 2047 ≡ true → None ≡ rounded_at s ((units_of (suc y) t * 200 + 2 ^ 1074) / (2 * 2 ^ 1074))
    infinite e =
        let k = eqb-true (suc y) 2047 e in
        let h : 10 ^ 14 ≡ min ((units_of (suc y) t * 200 + 2 ^ 1074) / (2 * 2 ^ 1074)) (10 ^ 14) = unfold count_of in high (suc y) t (omega arith) in
        star_at s (10 ^ 14) ((units_of (suc y) t * 200 + 2 ^ 1074) / (2 * 2 ^ 1074)) h (lit≤ tt)

    go : (b k : Bool) → eqb (suc y) 2047 ≡ b → T (not (is_nan (cond b (cond k (inf s) nan) (odd 53 s (2 ^ 52 + t) y 1074))))
        → hundredths_of (cond b (cond k (inf s) nan) (odd 53 s (2 ^ 52 + t) y 1074)) ≡ rounded_at s (((2 ^ 52 + t) * 2 ^ y * 200 + 2 ^ 1074) / (2 * 2 ^ 1074))
    go true true e g = unfold hundredths_of in infinite e
    go true false e g = absurd (unfold is_nan in g)
    go false k e g = of_value (odd 53 s (2 ^ 52 + t) y 1074) s ((2 ^ 52 + t) * 2 ^ y) (2 ^ 1074) (pow_pos 1074) (odd_sign 53 s (2 ^ 52 + t) y 1074)

of_bits_lem : (n : ℕ) → T (not (is_nan (of_bits binary64 n)))
    → hundredths_of (of_bits binary64 n) ≡ rounded_at (leb (2 ^ 63) n) ((units_of (n % 2 ^ 63 / 2 ^ 52) (n % 2 ^ 52) * 200 + 2 ^ 1074) / (2 * 2 ^ 1074))
unfolding of_bits
of_bits_lem n f = of_fields_lem (leb (2 ^ 63) n) (n % 2 ^ 63 / 2 ^ 52) (n % 2 ^ 52) f

pub star_of_nan : (x : Float) → ne x x ≡ true → None ≡ hundredths_of x
unfolding hundredths_of
star_of_nan x h = rw (differs_from_itself x (subst T (sym h) tt))

pub no_nan : (x : Float) → ne x x ≡ false → T (not (is_nan x))
unfolding ne eq is_nan
no_nan nan h = absurd (true≢false h)
no_nan (inf s) h = tt
no_nan (fin s m e) h = tt

-- that x fits is what owning the parameter tells
module _ (x : Float) (t : fits binary64 x ≡ true) (f : ne x x ≡ false) where
  of_float : rounded_at (leb (2 ^ 63) (to_bits binary64 x)) ((units_of (to_bits binary64 x % 2 ^ 63 / 2 ^ 52) (to_bits binary64 x % 2 ^ 52) * 200 + 2 ^ 1074) / (2 * 2 ^ 1074)) ≡ hundredths_of x
  of_float =
      let e = of_bits-to_bits binary64 x (subst T (sym t) tt) in
      sym (of_bits_lem (to_bits binary64 x) (subst (λ (y : Float). T (not (is_nan y))) (sym e) (no_nan x f))) ∙ ap hundredths_of e

  module _ {r : ℕ} (e : r ≡ count_of (to_bits binary64 x % 2 ^ 63 / 2 ^ 52) (to_bits binary64 x % 2 ^ 52)) where
    pub star : 10 ^ 14 ≤ r → None ≡ hundredths_of x
    unfolding count_of
    star l = star_at (leb (2 ^ 63) (to_bits binary64 x)) r _ e l ∙ of_float

    pub plain : r < 10 ^ 14 → r ≡ 0 → rounded false r ≡ hundredths_of x
    unfolding count_of
    plain l z = zero-at (leb (2 ^ 63) (to_bits binary64 x)) r _ e l z ∙ of_float

    pub signed : r < 10 ^ 14 → (r ≡ 0 → ⊥) → rounded (leb (2 ^ 63) (to_bits binary64 x)) r ≡ hundredths_of x
    unfolding count_of
    signed l z = some_at (leb (2 ^ 63) (to_bits binary64 x)) r _ e l z ∙ of_float
