-- A loop over the numbers below n that stops at the first that passes: what is left decides.
use Prim.Native.Nat.{ℕ, zero, suc, ◌+◌, ◌-◌, ◌≤◌, ◌<◌}
use native.Mathlib.Omega.{arith}
use mathlib.Core.Path.{◌≡◌, refl, sym, ap, ◌∙◌}
use mathlib.Core.Bool.{Bool, true, false, ◌||◌}
use mathlib.Core.Option.{none, some}
use Rattle.laws.specs.Lists.{some?, or_else, first, from}
use Rattle.std.specs.List.{list_any, range_with_len}
use native.Mathlib.Numerals.{add-one}
use Rattle.laws.proofs.From.{from_step, from_end}

module _ (t : ℕ → Bool) (n : ℕ) where
  -- the numbers below i fail
  pub record Failing (i : ℕ) : Type 0 where
    pub within : i ≤ n
    pub left : first t (from 0 n) ≡ first t (from i (n - i))

  pub failing_none : Failing 0
  failing_none = record { within = omega arith; left = ap (λ (k : ℕ). first t (from 0 k)) (let e : n ≡ n - 0 = omega arith in e) }

module _ {t : ℕ → Bool} {n i : ℕ} (at : Failing t n i) where
  module _ {r : Bool} (h : i < n) (e : r ≡ t i) where
    turn : first t (from 0 n) ≡ or_else r i (first t (from (i + 1) (n - (i + 1))))
    turn = at.left ∙ ap (first t) (from_step i n h) ∙ ap (λ (b : Bool). or_else b i (first t (from (i + 1) (n - (i + 1))))) (sym e)

    pub failing_next : r ≡ false → Failing t n (i + 1)
    failing_next f = record { within = omega arith; left = turn ∙ ap (λ (b : Bool). or_else b i (first t (from (i + 1) (n - (i + 1))))) f }

    pub passing : r ≡ true → first t (from 0 n) ≡ some i
    passing f = turn ∙ ap (λ (b : Bool). or_else b i (first t (from (i + 1) (n - (i + 1))))) f

  pub all_failing : n ≤ i → first t (from 0 n) ≡ none
  all_failing h = at.left ∙ ap (first t) (from_end i n h)

-- `any` over n numbers from a on
pub any_below : (t : ℕ → Bool) (a n : ℕ) → list_any t (range_with_len a n) ≡ some? t (from a n)
any_below t a zero = refl
any_below t a (suc n) = ap (λ (b : Bool). t a || b) (any_below t (a + 1) n ∙ ap (λ (k : ℕ). some? t (from k n)) (add-one a))
