-- A search that narrows a window of places to a quarter and what is over, and counts what is left.
use Prim.Native.Nat.{ℕ, ◌+◌, ◌*◌, ◌-◌, ◌≤◌, ◌<◌}
use native.Mathlib.Omega.{arith}
use mathlib.Core.Path.{◌≡◌, refl}
use mathlib.Core.Bool.{Bool, true, false, cond}
use mathlib.Core.List.{List}
use mathlib.Core.Logic.{⊎_elim}
use lib.Dec.{ltb}
use lib.ListN.{length, get_or}
use borrow.Author.Tests.{ltb-true, ltb-false}
use Rattle.laws.proofs.Bools.{both_ways, true_or_false}
use Rattle.laws.proofs.Search.{Between, Falls, between_up, between_down}

module _ {A : Type 0} (t : A → Bool) (xs : List A) (d : A) where
  -- the test at a place
  abbrev At : ℕ → Bool
  At i = t (get_or xs i d)

  wider : {lo hi : ℕ} → Between t xs d lo hi → (low high : ℕ) → low ≤ lo → hi ≤ high → high ≤ length xs → Between t xs d low high
  wider b low high l h i =
      record {
        within = omega (arith, b.within);
        inside = i;
        below = λ j k. b.below j (omega arith);
        above = λ j k m. b.above j (omega arith) m;
      }

  -- of the places before k those before found pass, and the others fail
  pub record Counted (k found : ℕ) : Type 0 where
    pub within : found ≤ k
    pub inside : k ≤ length xs
    pub below : (i : ℕ) → i < found → At i ≡ true
    pub above : (i : ℕ) → found ≤ i → i < k → At i ≡ false

  pub counted_start : {lo hi : ℕ} → Between t xs d lo hi → Counted lo lo
  counted_start b =
      record {
        within = omega arith;
        inside = omega (arith, b.within, b.inside);
        below = b.below;
        above = λ i k m. absurd (omega arith);
      }

  -- the window was counted to its end: the bound is found
  pub counted_end : {lo hi k found : ℕ} → Between t xs d lo hi → Counted k found → hi ≤ k → Between t xs d found found
  counted_end {lo} {hi} {k} {found} b c l =
      record {
        within = omega arith;
        inside = omega (arith, c.within, c.inside);
        below = c.below;
        above = λ i m j. ⊎_elim (λ e. c.above i m (ltb-true i k e)) (λ e. let g = ltb-false i k e in b.above i (omega arith) j) (true_or_false (ltb i k));
      }

  module _ (f : Falls t xs d) where
    -- none failed before one that passes
    all-passed : {k found : ℕ} → Counted k found → k < length xs → At k ≡ true → k ≤ found
    all-passed {k} {found} c l e =
        ⊎_elim (λ g. absurd (clash (ltb-true found k g))) (λ g. ltb-false found k g) (true_or_false (ltb found k))
      where
        clash : found < k → ⊥
        clash g = both_ways (f.before found k (omega arith) l e) (c.above found (omega arith) g)

    more_by : {k found : ℕ} → Counted k found → k < length xs → (s : Bool) → At k ≡ s → Counted (k + 1) (found + cond s 1 0)
    more_by {k} {found} c l true e =
        let g = all-passed c l e in
        record {
          within = omega (arith, c.within);
          inside = omega arith;
          below = λ i m. f.before i k (omega (arith, c.within)) l e;
          above = λ i m j. absurd (omega arith);
        }
    more_by {k} {found} c l false e =
        record {
          within = omega (arith, c.within);
          inside = omega arith;
          below = λ i m. c.below i (omega arith);
          above = λ i m j. ⊎_elim (λ g. c.above i (omega arith) (ltb-true i k g)) (λ g. last i (ltb-false i k g) j) (true_or_false (ltb i k));
        }
      where
        last : (i : ℕ) → k ≤ i → i < k + 1 → At i ≡ false
        last i m j = let same : i ≡ k = omega arith in rw same e

    -- one place more
    pub counted-more : {k found x : ℕ} → Counted k found → k < length xs → x ≡ cond (At k) 1 0 → Counted (k + 1) (found + x)
    counted-more {k} c l p = rw p (more_by c l (At k) refl)

    module _ {lo left : ℕ} (q : ℕ) (b : Between t xs d lo (lo + left)) (some : 0 < q) (four : 4 * q ≤ left) where
      narrowed_by
          : (s u v : Bool) → At (lo + q - 1) ≡ s → At (lo + 2 * q - 1) ≡ u → At (lo + 3 * q - 1) ≡ v
          → Between t xs d (lo + cond s q 0 + cond u q 0 + cond v q 0) (lo + cond s q 0 + cond u q 0 + cond v q 0 + (left - 3 * q))
      narrowed_by true true true e g h =
          wider (between_up t xs d f b (lo + 3 * q - 1) (omega arith) (omega arith) h) _ _ (omega arith) (omega arith) (omega (arith, b.inside))
      narrowed_by true true false e g h =
          let c = between_up t xs d f b (lo + 2 * q - 1) (omega arith) (omega arith) g in
          wider (between_down t xs d f c (lo + 3 * q - 1) (omega arith) (omega arith) h) _ _ (omega arith) (omega arith) (omega (arith, b.inside))
      narrowed_by true false false e g h =
          let c = between_up t xs d f b (lo + q - 1) (omega arith) (omega arith) e in
          wider (between_down t xs d f c (lo + 2 * q - 1) (omega arith) (omega arith) g) _ _ (omega arith) (omega arith) (omega (arith, b.inside))
      narrowed_by false false false e g h =
          wider (between_down t xs d f b (lo + q - 1) (omega arith) (omega arith) e) _ _ (omega arith) (omega arith) (omega (arith, b.inside))
      narrowed_by s false true e g h = absurd (both_ways (f.before (lo + 2 * q - 1) (lo + 3 * q - 1) (omega arith) (omega (arith, b.inside)) h) g)
      narrowed_by false true v e g h = absurd (both_ways (f.before (lo + q - 1) (lo + 2 * q - 1) (omega arith) (omega (arith, b.inside)) g) e)

      -- the ends of three quarters were tested: the window goes on by those that passed
      pub narrowed
          : {x y z : ℕ} → x ≡ cond (At (lo + q - 1)) q 0 → y ≡ cond (At (lo + 2 * q - 1)) q 0 → z ≡ cond (At (lo + 3 * q - 1)) q 0
          → Between t xs d (lo + x + y + z) (lo + x + y + z + (left - 3 * q))
      narrowed e g h = rw (e, g, h) (narrowed_by (At (lo + q - 1)) (At (lo + 2 * q - 1)) (At (lo + 3 * q - 1)) refl refl refl)
