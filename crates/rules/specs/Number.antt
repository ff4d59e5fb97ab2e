-- Float steps, powers and weights. 01, "Own rules" and "Values". A step that is not finite is refused by who takes it.
use Rattle.std.specs.Prelude.{ℕ, zero, suc, ◌+◌, ◌*◌, ◌/◌, ◌%◌, ◌^◌, Bool, true, false, ◌&&◌, cond, eqb, ltb, leb, ℤ, Float, None, Some, Option}
use Rattle.std.specs.Float.{nan, inf, fin, binary64}
use Rattle.std.specs.Float.Ieee.{of_bits, add, sub, mul, div, to_signed, up, down}
use Rattle.laws.specs.Floats.{zero_f, one_f}
use Rattle.rules.specs.Answer.{Res, ok, refused}
use Rattle.rules.specs.declared.Refusal.TheVariants.{Number}
use Rattle.rules.specs.declared.Hundredths.{Hundredths}

-- a float step's result: None is one that is not finite
abbrev pub Step : Type 0
Step = Option Float

-- one operation's result; "a float step's result is not finite"
unfoldable pub step : Float → Step
step nan = None
step (inf s) = None
step (fin s m e) = Some (fin s m e)

-- "The float format and its operations are IEEE 754 binary64"
abbrev pub plus : Float → Float → Step
plus x y = step (add binary64 x y)

abbrev pub minus : Float → Float → Step
minus x y = step (sub binary64 x y)

abbrev pub times : Float → Float → Step
times x y = step (mul binary64 x y)

abbrev pub over : Float → Float → Step
over x y = step (div binary64 x y)

-- one step after another
infixl 10 ◌>>=◌
unfoldable pub ◌>>=◌ : Step → (Float → Step) → Step
◌>>=◌ (Some x) f = f x
◌>>=◌ None f = None

-- 8 NUMBER: a step that the object o's attribute takes; "a float step's result is not finite"; the place is the "owning object"
unfoldable pub number_at : ℕ → Step → Res Float
number_at o (Some x) = ok x
number_at o None = refused (Number o)

-- "multiply in where it is 1"
unfoldable pub times_if : Bool → Float → Float → Step
times_if true r x = times r x
times_if false r x = Some r

-- "Powers": r times x to the power n, of at most d binary digits, lowest first; then square unless no digits remain
unfoldable pub power_from : ℕ → Float → Float → ℕ → Step
power_from zero r x n = Some r
power_from (suc d) r x zero = Some r
power_from (suc d) r x (suc n) =
    times_if (eqb (suc n % 2) 1) r x >>= λ r'.
    elim (suc n / 2) [ zero ↦ Some r' | suc k ↦ times x x >>= λ x'. power_from d r' x' (suc n / 2) ]

-- a quantity has at most 32 digits; "result 1; for each binary digit of the exponent"
unfoldable pub power : Float → ℕ → Step
power x n = power_from 32 one_f x n

-- 0.8691199808003974; "0.8691199808003974 to the power p times p"
abbrev pub penalty_factor : Float
penalty_factor = of_bits binary64 0x3feb_cfd4_b4ba_cfb5

abbrev pub finite_or : Float → Step → Float
finite_or d (Some x) = x
finite_or d None = d

-- "position p from 0 to 7 weighs 0.8691199808003974 to the power p times p, later ones 0.0"
unfoldable pub weight : ℕ → Float
weight p = elim (ltb p 8) [ true ↦ finite_or zero_f (power penalty_factor (p * p)) | false ↦ zero_f ]

-- `as i32`: "cut toward zero and held to i32"
abbrev pub cut : Float → ℤ
cut x = to_signed 31 x

-- so many hundredths, after a minus or not; no hundredths is the star
abbrev pub rounded : Bool → ℕ → Option Hundredths
rounded s c = Some (record { minus = s; count = c })

-- c hundredths of a size: 02, "The star starts where the rounded size reaches 10^12"; 01, "minus only if a digit is nonzero"
abbrev pub rounded_at : Bool → ℕ → Option Hundredths
rounded_at s c = cond (leb (10 ^ 14) c) None (rounded (s && ltb 0 c) c)

-- 02, M-101: "the nearest hundredth of the exact value, halves away from zero": half a hundredth more, and cut
unfoldable pub hundredths_of : Float → Option Hundredths
hundredths_of nan = None
hundredths_of (inf s) = None
hundredths_of (fin s m e) = rounded_at s ((m * up e * 200 + down e) / (2 * down e))
