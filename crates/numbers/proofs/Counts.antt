-- The hundredths of a size, by the exponent's field.
use Rattle.std.proofs.Common.{◌≡◌, ℕ, zero, suc, ◌+◌, ◌-◌, ◌*◌, ◌/◌, ◌^◌, ◌<◌, ◌≤◌, min, sym, refl, ap, ◌∙◌, mul-le-mul_right, mul_comm, le-div_iff_mul-le, div-le_self, mul_right_comm, arith, lit≤, pow_pos, pow_mono, pow-add}
use native.Mathlib.Nat.{div-eq_of_lt, mul-div-mul_right, add-div_right, div-div-eq-div-mul}
use Rattle.numbers.specs.Counted.{count_of}

-- half more, and cut, is the count of halves, one more, halved
pub halved : (a d : ℕ) → 0 < d → (a + d) / (2 * d) ≡ (a / d + 1) / 2
halved a d p =
    ap (λ (n : ℕ). (a + d) / n) (mul_comm 2 d) ∙ sym (div-div-eq-div-mul (a + d) d 2) ∙ ap (λ (n : ℕ). n / 2) (add-div_right a p)

none : (a d : ℕ) → a < d → 0 ≡ min (a / d) (10 ^ 14)
none a d h = let z : a / d ≡ 0 = div-eq_of_lt h in omega arith

no_halves : (a d : ℕ) → a < d → 0 ≡ min ((a / d + 1) / 2) (10 ^ 14)
no_halves a d h = let z : a / d ≡ 0 = div-eq_of_lt h in rw z refl

full : (c : ℕ) → 10 ^ 14 ≤ c → 10 ^ 14 ≡ min c (10 ^ 14)
full c h = omega arith

few : (c : ℕ) → c < 10 ^ 14 → c ≡ min c (10 ^ 14)
few c h = omega arith

-- a size below 2 ^ 53 units is no half of a hundredth: D is 2 ^ 1074
under : (t D : ℕ) → t < 2 ^ 52 → 2 ^ 61 ≤ D → t * 200 + D < 2 * D
under t D h l = omega arith

over : (q P D : ℕ) → 2 ^ 52 * P ≤ q → D ≤ P → 10 ^ 14 * (2 * D) ≤ q * 200 + D
over q P D h l = omega arith

module _ (x t : ℕ) (h : t < 2 ^ 52) where
  pub at_zero : x ≡ 0 → 0 ≡ count_of x t
  unfolding count_of
  at_zero e = rw e (none (t * 200 + 2 ^ 1074) (2 * 2 ^ 1074) (under t (2 ^ 1074) h (lit≤ tt)))

pub high : (x t : ℕ) → 1075 ≤ x → 10 ^ 14 ≡ count_of x t
unfolding count_of
high zero t l = absurd (omega arith)
high (suc y) t l =
    let k : 1074 ≤ y = omega arith in
    full (((2 ^ 52 + t) * 2 ^ y * 200 + 2 ^ 1074) / (2 * 2 ^ 1074))
    ((le-div_iff_mul-le (lit≤ tt)).1
    (over ((2 ^ 52 + t) * 2 ^ y) (2 ^ y) (2 ^ 1074) (mul-le-mul_right (2 ^ y) (omega arith)) (pow_mono k)))

shifted : (y t : ℕ) → y < 1074 → (2 ^ 52 + t) * 2 ^ y * 200 / 2 ^ 1074 ≡ (t + 4503599627370496) * 200 / 2 ^ (1074 - y)
shifted y t l =
    ap (λ (n : ℕ). n / 2 ^ 1074) (mul_right_comm (2 ^ 52 + t) (2 ^ y) 200)
    ∙ ap (λ (n : ℕ). (2 ^ 52 + t) * 200 * 2 ^ y / n) (ap (λ (k : ℕ). 2 ^ k) whole ∙ pow-add 2 (1074 - y) y)
    ∙ mul-div-mul_right ((2 ^ 52 + t) * 200) (2 ^ (1074 - y)) (pow_pos y)
    ∙ ap (λ (n : ℕ). n * 200 / 2 ^ (1074 - y)) swap
  where
    whole : 1074 ≡ 1074 - y + y
    whole = omega arith

    swap : 2 ^ 52 + t ≡ t + 4503599627370496
    swap = omega arith

pub middle : (x t : ℕ) → (x ≡ 0 → ⊥) → x < 1075 → min (((t + 4503599627370496) * 200 / 2 ^ (1075 - x) + 1) / 2) (10 ^ 14) ≡ count_of x t
unfolding count_of
middle zero t z l = absurd (z refl)
middle (suc y) t z l =
    ap (λ (k : ℕ). min (((t + 4503599627370496) * 200 / 2 ^ k + 1) / 2) (10 ^ 14)) less
    ∙ ap (λ (n : ℕ). min ((n + 1) / 2) (10 ^ 14)) (sym (shifted y t (omega arith)))
    ∙ ap (λ (n : ℕ). min n (10 ^ 14)) (sym (halved ((2 ^ 52 + t) * 2 ^ y * 200) (2 ^ 1074) (pow_pos 1074)))
  where
    less : 1075 - suc y ≡ 1074 - y
    less = omega arith

wide : (t D : ℕ) → t < 2 ^ 52 → 2 ^ 61 ≤ D → (t + 4503599627370496) * 200 < D
wide t D h l = omega arith

-- the count of halves is not the greatest number
pub one_more : (t d : ℕ) → t < 2 ^ 52 → (t + 4503599627370496) * 200 / d + 1 < 2 ^ 64
one_more t d h = let l = div-le_self ((t + 4503599627370496) * 200) d in omega (arith, l, h)

module _ (x t : ℕ) (h : t < 2 ^ 52) (z : x ≡ 0 → ⊥) (l : x < 1075) where
  pub deep : 61 ≤ 1075 - x → 0 ≡ count_of x t
  deep k = no_halves ((t + 4503599627370496) * 200) (2 ^ (1075 - x)) (wide t (2 ^ (1075 - x)) h (pow_mono k)) ∙ middle x t z l

  pub counts : ((t + 4503599627370496) * 200 / 2 ^ (1075 - x) + 1) / 2 < 10 ^ 14 → ((t + 4503599627370496) * 200 / 2 ^ (1075 - x) + 1) / 2 ≡ count_of x t
  counts k = few (((t + 4503599627370496) * 200 / 2 ^ (1075 - x) + 1) / 2) k ∙ middle x t z l

  pub limits : 10 ^ 14 ≤ ((t + 4503599627370496) * 200 / 2 ^ (1075 - x) + 1) / 2 → 10 ^ 14 ≡ count_of x t
  limits k = full (((t + 4503599627370496) * 200 / 2 ^ (1075 - x) + 1) / 2) k ∙ middle x t z l
