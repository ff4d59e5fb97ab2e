-- The loop over the projected objects, from the char on.
use Prim.Native.Nat.{ℕ, ◌+◌, ◌≤◌, ◌<◌}
use native.Mathlib.Nat.{eq-or-lt_of_le}
use native.Mathlib.Omega.{arith}
use mathlib.Core.Path.{◌≡◌, sym, ap, ◌∙◌}
use mathlib.Core.Bool.{true}
use mathlib.Core.Logic.{◌⊎◌, inl, inr}
use lib.ListN.{length}
use borrow.Author.Tests.{eq-eqb, ne_eqb}
use Rattle.rules.specs.Sheet.{Fit}
use Rattle.rules.specs.Shape.{objects_good}
use Rattle.rules.specs.Item.{object, is_projected, char_of}
use Rattle.rules.specs.declared.Item.{Item}
use Rattle.reading.specs.Order.{projected_end}
use Rattle.reading.proofs.Objects.{projected_is}

-- those after the char are projected, up to i
pub record Passing (f : Fit) (n i : ℕ) : Type 0 where
  pub all : n ≡ length f.objects
  pub start : char_of f + 1 ≤ i
  pub inside : i ≤ n
  pub on : (j : ℕ) → char_of f + 1 ≤ j → j < i → is_projected (object f j) ≡ true

pub passing_none : {f : Fit} {n i : ℕ} → n ≡ length f.objects → i ≡ char_of f + 1 → char_of f < length f.objects → Passing f n i
passing_none e s l = record { all = e; start = omega arith; inside = omega arith; on = λ j h m. absurd (omega arith) }

module _ {f : Fit} {n i : ℕ} (I : Passing f n i) where
  module _ (l : i < n) {o : Item} (e : o ≡ object f i) where
    pub passing_more : o.kind ≡ 6 → Passing f n (i + 1)
    passing_more h = record { all = I.all; start = omega (arith, I.start); inside = omega arith; on = on }
      where
        at : (j : ℕ) → char_of f + 1 ≤ j → (j ≡ i) ⊎ (j < i) → is_projected (object f j) ≡ true
        at j a (inl b) = ap (λ (x : ℕ). is_projected (object f x)) b ∙ ap is_projected (sym e) ∙ eq-eqb o.kind 6 h
        at j a (inr b) = I.on j a b

        on : (j : ℕ) → char_of f + 1 ≤ j → j < i + 1 → is_projected (object f j) ≡ true
        on j a b = at j a (eq-or-lt_of_le {n = j} {m = i} (omega arith))

    pub passing_other : objects_good f ≡ true → (o.kind ≡ 6 → ⊥) → i ≡ projected_end f
    passing_other good h =
        projected_is f good i I.start (omega (arith, I.inside, I.all)) I.on (λ m. ap is_projected (sym e) ∙ ne_eqb o.kind 6 h)

  pub passing_all : objects_good f ≡ true → n ≤ i → i ≡ projected_end f
  passing_all good h = projected_is f good i I.start (omega (arith, I.inside, I.all)) I.on (λ m. absurd (omega (arith, I.all)))
