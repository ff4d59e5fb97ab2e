-- Lists whose keys do not descend: how many keys are below a bound, and where those with one key stand.
use Prim.Native.Nat.{ℕ, zero, suc, ◌+◌, ◌-◌, ◌≤◌, ◌<◌, suc-le-suc, zero-le}
use native.Mathlib.Nat.{not-suc-le-zero, le_of_suc-le-suc}
use native.Mathlib.Omega.{arith}
use mathlib.Core.Path.{◌≡◌, refl, sym, ap, ◌∙◌}
use mathlib.Core.Bool.{Bool, true, false}
use mathlib.Core.List.{List, [], ◌∷◌, ◌++◌}
use mathlib.Core.Logic.{⊎_elim}
use lib.Dec.{eqb, ltb}
use lib.ListN.{length, get_or}
use borrow.Author.Tests.{eq-eqb, ne_eqb, ltb-true, ltb-false, lt-ltb}
use Rattle.laws.specs.Lists.{put, keep, span}
use Rattle.laws.proofs.Bools.{both_ways, not-passed, true_or_false}
use Rattle.laws.proofs.Search.{Between, Falls}
use Rattle.laws.proofs.Runs.{keep_run}
use Rattle.laws.proofs.Spans.{span_append}

-- two spans, one right after the other
pub span_join : {A : Type 0} (xs : List A) (a b c : ℕ) → a ≤ b → b ≤ c → span a (b - a) xs ++ span b (c - b) xs ≡ span a (c - a) xs
span_join {A} xs a b c l m =
    ap (λ (n : ℕ). span a (b - a) xs ++ span n (c - b) xs) there ∙ sym (span_append a (b - a) (c - b) xs) ∙ ap (λ (n : ℕ). span a n xs) sum
  where
    there : b ≡ a + (b - a)
    there = omega arith

    sum : b - a + (c - b) ≡ c - a
    sum = omega arith

-- a test that falls passes as often as there are places before its bound
module _ {A : Type 0} (t : A → Bool) (d : A) where
  falls_tail : (x : A) (xs : List A) → Falls t (x ∷ xs) d → Falls t xs d
  falls_tail x xs f = record { before = λ i j l h e. f.before (suc i) (suc j) (suc-le-suc l) (suc-le-suc h) e }

  falls-by : (x : A) (xs : List A) → Falls t (x ∷ xs) d → (s : Bool) → t x ≡ s → (n : ℕ) → Between t xs d n n → length (keep t xs) ≡ n
      → Between t (x ∷ xs) d (length (put s x (keep t xs))) (length (put s x (keep t xs)))
  falls-by x xs f true e n b k =
      record { within = omega arith; inside = omega (arith, b.inside); below = below; above = above }
    where
      below : (i : ℕ) → i < suc (length (keep t xs)) → t (get_or (x ∷ xs) i d) ≡ true
      below zero h = e
      below (suc i) h = b.below i (omega arith)

      above : (i : ℕ) → suc (length (keep t xs)) ≤ i → i < suc (length xs) → t (get_or (x ∷ xs) i d) ≡ false
      above zero h m = absurd (not-suc-le-zero h)
      above (suc i) h m = b.above i (omega arith) (le_of_suc-le-suc m)
  falls-by x xs f false e n b k =
      record { within = omega arith; inside = omega (arith, b.inside); below = below; above = above }
    where
      below : (i : ℕ) → i < length (keep t xs) → t (get_or (x ∷ xs) i d) ≡ true
      below i h = both_ways (f.before 0 1 zero-le (omega (arith, b.inside)) (b.below 0 (omega arith))) e

      above : (i : ℕ) → length (keep t xs) ≤ i → i < suc (length xs) → t (get_or (x ∷ xs) i d) ≡ false
      above i h m = not-passed (t (get_or (x ∷ xs) i d)) (λ p. both_ways (f.before 0 i zero-le m p) e)

  pub falls_kept : (xs : List A) → Falls t xs d → Between t xs d (length (keep t xs)) (length (keep t xs))
  falls_kept [] f =
      record { within = omega arith; inside = omega arith; below = λ i h. absurd (not-suc-le-zero h); above = λ i h m. absurd (not-suc-le-zero m) }
  falls_kept (x ∷ xs) f = falls-by x xs f (t x) refl (length (keep t xs)) (falls_kept xs (falls_tail x xs f)) refl

module _ {A : Type 0} (key : A → ℕ) (xs : List A) (d : A) where
  -- how many keys are below r
  abbrev pub below : ℕ → ℕ
  below r = length (keep (λ x. ltb (key x) r) xs)

  abbrev pub Climbs : Type 0
  Climbs = (i j : ℕ) → i ≤ j → j < length xs → key (get_or xs i d) ≤ key (get_or xs j d)

  module _ (c : Climbs) where
    pub falls : (r : ℕ) → Falls (λ x. ltb (key x) r) xs d
    falls r = record { before = λ i j l h e. lt-ltb (key (get_or xs i d)) r (omega (arith, c i j l h, ltb-true (key (get_or xs j d)) r e)) }

    bound : (r : ℕ) → Between (λ x. ltb (key x) r) xs d (below r) (below r)
    bound r = falls_kept (λ x. ltb (key x) r) d xs (falls r)

    pub below_inside : (r : ℕ) → below r ≤ length xs
    below_inside r = (bound r).inside

    pub below_before : (r i : ℕ) → i < below r → key (get_or xs i d) < r
    below_before r i h = ltb-true (key (get_or xs i d)) r ((bound r).below i h)

    pub below_past : (r i : ℕ) → below r ≤ i → i < length xs → r ≤ key (get_or xs i d)
    below_past r i h l = ltb-false (key (get_or xs i d)) r ((bound r).above i h l)

    -- the place before which keys are below r, and at which they are not
    pub below_is : (r i : ℕ) → i ≤ length xs → ((j : ℕ) → j < i → key (get_or xs j d) < r) → (i < length xs → r ≤ key (get_or xs i d)) → below r ≡ i
    below_is r i h f g =
        ⊎_elim (λ e. absurd (early (ltb-true i (below r) e)))
        (λ e. ⊎_elim (λ m. absurd (late (ltb-true (below r) i m))) (λ m. omega (arith, ltb-false i (below r) e, ltb-false (below r) i m)) (true_or_false (ltb (below r) i)))
        (true_or_false (ltb i (below r)))
      where
        early : i < below r → ⊥
        early l = omega (arith, below_before r i l, g (omega (arith, below_inside r)))

        late : below r < i → ⊥
        late l = omega (arith, f (below r) l, below_past r (below r) (omega arith) (omega arith))

    pub below_climbs : (r s : ℕ) → r ≤ s → below r ≤ below s
    below_climbs r s l = ⊎_elim (λ e. absurd (clash (ltb-true (below s) (below r) e))) (λ e. ltb-false (below s) (below r) e) (true_or_false (ltb (below s) (below r)))
      where
        clash : below s < below r → ⊥
        clash h = omega (arith, below_before r (below s) h, below_past s (below s) (omega arith) (omega (arith, below_inside r)))

    -- those with one key stand side by side
    pub keyed_run : (r : ℕ) → keep (λ x. eqb (key x) r) xs ≡ span (below r) (below (suc r) - below r) xs
    keyed_run r =
        keep_run (λ x. eqb (key x) r) xs d (below r) (below (suc r)) (below_climbs r (suc r) (omega arith)) (below_inside (suc r))
        (λ i l. ne_eqb (key (get_or xs i d)) r (λ e. omega (arith, below_before r i l)))
        (λ i l h. eq-eqb (key (get_or xs i d)) r (omega (arith, below_past r i l (omega (arith, below_inside (suc r))), below_before (suc r) i h)))
        (λ i l h. ne_eqb (key (get_or xs i d)) r (λ e. omega (arith, below_past (suc r) i l h)))
