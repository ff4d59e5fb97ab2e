-- The moves in phases, and what one object gives in a phase, test by test.
use Prim.Native.Nat.{ℕ}
use native.Mathlib.Omega.{arith}
use mathlib.Core.Path.{◌≡◌, refl, sym, ap, ◌∙◌}
use mathlib.Core.Bool.{Bool, true, false, ◌&&◌, ◌||◌, cond}
use mathlib.Core.List.{[], ◌++◌, append_assoc}
use lib.Dec.{eqb}
use borrow.Author.Tests.{eqb-true, leb-true, ne_eqb}
use Rattle.laws.specs.Lists.{flat}
use Rattle.laws.proofs.Bools.{both_ways, or_none_right}
use Rattle.laws.proofs.Flat.{flat_keep}
use Rattle.rules.specs.Sheet.{Book, Fit}
use Rattle.rules.specs.Item.{is_item, is_charge, is_projected, item_of, passed}
use Rattle.rules.specs.Collect.{unless, own_moves, projected_moves, fitted_moves, moves}
use Rattle.rules.specs.declared.Item.{Item}
use Rattle.collect.specs.declared.Phase.{Phase}
use Rattle.collect.specs.declared.Phase.TheVariants.{Front, Projected, Fitted, Skills}
use Rattle.collect.specs.Parts.{in_phase, phase_moves, object_moves, all_of, rest_of, is_over}

module _ (k : Book) (f : Fit) where
  pub in_phases : (all_of k f Front ++ all_of k f Projected) ++ rest_of k f ≡ moves k f
  unfolding moves
  in_phases = append_assoc (all_of k f Front) (all_of k f Projected) (rest_of k f)

  -- all objects, one after another
  pub phase_objects : (x : Phase) → flat (object_moves k f x) f.objects ≡ all_of k f x
  phase_objects x = sym (flat_keep (phase_moves k f x) (in_phase x) f.objects)

-- only items and charges are passed over
no_over : (n : ℕ) (p q : Bool) → eqb n 3 ≡ false → eqb n 4 ≡ false → eqb n 3 && p || eqb n 4 && q ≡ false
no_over n p q h g = rw (h, g) refl

-- an item by itself, a charge by its item
over-fitted : (n : ℕ) (a b : Item) (p : Item → Bool) → eqb n 3 || eqb n 4 ≡ true → eqb n 3 && p a || eqb n 4 && p b ≡ p (cond (eqb n 4) b a)
over-fitted n a b p h = by (eqb n 3) (eqb n 4) refl refl
  where
    by : (s t : Bool) → eqb n 3 ≡ s → eqb n 4 ≡ t → eqb n 3 && p a || eqb n 4 && p b ≡ p (cond (eqb n 4) b a)
    by true true e g = absurd (omega (arith, eqb-true n 3 e, eqb-true n 4 g))
    by true false e g = rw (e, g) (or_none_right (p a))
    by false true e g = rw (e, g) refl
    by false false e g = both_ways h (rw (e, g) refl)

module _ (k : Book) (f : Fit) (o : Item) where
  pub out_of : (x : Phase) → in_phase x o ≡ false → [] ≡ object_moves k f x o
  out_of x h = sym (ap (λ (b : Bool). cond b (phase_moves k f x o) []) h)

  within : (x : Phase) → in_phase x o ≡ true → phase_moves k f x o ≡ object_moves k f x o
  within x h = sym (ap (λ (b : Bool). cond b (phase_moves k f x o) []) h)

  fitted-by : (b : Bool) → is_item o || is_charge o ≡ true → is_over k f o ≡ b → unless b (own_moves k f o) ≡ fitted_moves k f o
  unfolding fitted_moves
  fitted-by b h g = ap (λ (t : Bool). unless t (own_moves k f o)) (sym g ∙ over-fitted o.kind o (item_of f o) (passed k f) h)

  -- what is passed over
  not-fitted : (o.kind ≡ 3 → ⊥) → (o.kind ≡ 4 → ⊥) → is_over k f o ≡ true → ⊥
  not-fitted h g i = both_ways i (no_over o.kind (passed k f o) (passed k f (item_of f o)) (ne_eqb o.kind 3 h) (ne_eqb o.kind 4 g))

  pub over : (x : Phase) → in_phase x o ≡ true → is_over k f o ≡ true → [] ≡ object_moves k f x o
  over Front h g = let l = leb-true o.kind 2 h in absurd (not-fitted (λ e. omega arith) (λ e. omega arith) g)
  over Projected h g = let n = eqb-true o.kind 6 h in absurd (not-fitted (λ e. omega arith) (λ e. omega arith) g)
  over Fitted h g = fitted-by true h g ∙ within Fitted h
  over Skills h g = let n = eqb-true o.kind 5 h in absurd (not-fitted (λ e. omega arith) (λ e. omega arith) g)

  pub projected : (x : Phase) → in_phase x o ≡ true → is_projected o ≡ true → projected_moves k f o ≡ object_moves k f x o
  projected Front h g = absurd (omega (arith, leb-true o.kind 2 h, eqb-true o.kind 6 g))
  projected Projected h g = within Projected h
  projected Fitted h g = both_ways h (rw (eqb-true o.kind 6 g) refl)
  projected Skills h g = absurd (omega (arith, eqb-true o.kind 5 h, eqb-true o.kind 6 g))

  pub owned : (x : Phase) → in_phase x o ≡ true → is_over k f o ≡ false → is_projected o ≡ false → own_moves k f o ≡ object_moves k f x o
  owned Front h g i = within Front h
  owned Projected h g i = both_ways h i
  owned Fitted h g i = fitted-by false h g ∙ within Fitted h
  owned Skills h g i = within Skills h
