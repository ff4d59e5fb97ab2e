-- One turn of `power`: what is left of the digits decides.
use Rattle.std.proofs.Common.{◌≡◌, ℕ, zero, suc, ◌/◌, ◌%◌, ◌^◌, ◌<◌, not, eqb, sym, refl, ap, ◌∙◌, arith, ne_eqb, None, Some}
use native.Mathlib.Nat.{pow-succ'}
use mathlib.Core.Path.{fun_ext}
use lib.Ieee.{Float}
use Rattle.laws.specs.Floats.{one_f}
use Rattle.rules.specs.Number.{Step}
use Rattle.rules.specs.Number.{◌>>=◌, times, times_if, power_from, power}
use Rattle.numbers.proofs.Steps.{bound, refused}

-- the answer `whole` is r times x to the power k, of at most `digits` binary digits
pub record Left (r x : Float) (k : ℕ) (whole : Step) : Type 0 where
  pub digits : ℕ
  pub few : k < 2 ^ digits
  pub same : power_from digits r x k ≡ whole

pub start : (x : Float) (n : ℕ) → n < 2 ^ 32 → Left one_f x n (power x n)
unfolding power
start x n h = record { digits = 32; few = h; same = refl }

none : (d : ℕ) (r x : Float) → power_from d r x 0 ≡ Some r
unfolding power_from
none zero r x = refl
none (suc d) r x = refl

-- the square, h digits being left; h and j are one number
square : (d : ℕ) (p x : Float) (h j : ℕ) → h ≡ j
    → elim h [ zero ↦ Some p | suc k ↦ times x x >>= λ q. power_from d p q j ] ≡ (times_if (not (eqb h 0)) x x >>= λ q. power_from d p q j)
unfolding times_if ◌>>=◌
square d p x zero j e = sym (none d p x) ∙ ap (power_from d p x) e
square d p x (suc h) j e = rw (ne_eqb (suc h) 0 (λ z. omega arith))

-- a turn, where there is a digit, takes it off
record Turn (r x : Float) (k : ℕ) (w : Step) : Type 0 where
  fewer : ℕ
  few : k / 2 < 2 ^ fewer
  is : (times_if (eqb (k % 2) 1) r x >>= λ p. times_if (not (eqb (k / 2) 0)) x x >>= λ q. power_from fewer p q (k / 2)) ≡ w

turn : (d : ℕ) (r x : Float) (k : ℕ) → (times_if (eqb (k % 2) 1) r x >>= λ p. times_if (not (eqb (k / 2) 0)) x x >>= λ q. power_from d p q (k / 2)) ≡ power_from (suc d) r x k
unfolding power_from
turn d r x zero = unfold times_if in unfold ◌>>=◌ in none d r x
turn d r x (suc k) = ap (λ (f : Float → Step). times_if (eqb (suc k % 2) 1) r x >>= f) (fun_ext λ p. sym (square d p x (suc k / 2) (suc k / 2) refl))

module _ {r x : Float} {k : ℕ} {w : Step} (l : Left r x k w) where
  pub done : k ≡ 0 → Some r ≡ w
  done z = sym (none l.digits r x) ∙ ap (power_from l.digits r x) (sym z) ∙ l.same

  module _ (z : k ≡ 0 → ⊥) {g : Step} (made : g ≡ times_if (eqb (k % 2) 1) r x) where
    turned : Turn r x k w
    turned = go l.digits l.few l.same
      where
        go : (d : ℕ) → k < 2 ^ d → power_from d r x k ≡ w → Turn r x k w
        go zero f e = absurd (z (omega arith))
        go (suc d) f e = record { fewer = d; few = let p = pow-succ' 2 d in omega arith; is = turn d r x k ∙ e }

    pub no_product : g ≡ None → None ≡ w
    no_product n = sym (refused _ (sym made ∙ n)) ∙ turned.is

    module _ {p : Float} (y : g ≡ Some p) {s : Step} (squared : s ≡ times_if (not (eqb (k / 2) 0)) x x) where
      pub no_square : s ≡ None → None ≡ w
      no_square n = sym (refused _ (sym squared ∙ n)) ∙ sym (bound _ (sym made ∙ y)) ∙ turned.is

      pub again : {q : Float} → s ≡ Some q → Left p q (k / 2) w
      again n = record { digits = turned.fewer; few = turned.few; same = sym (bound _ (sym squared ∙ n)) ∙ sym (bound _ (sym made ∙ y)) ∙ turned.is }
