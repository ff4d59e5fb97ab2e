-- Binary search: the places between which a bound lies, and what the bound gives.
use Prim.Native.Nat.{ℕ, ◌+◌, ◌-◌, ◌/◌, ◌≤◌, ◌<◌, zero-le}
use native.Mathlib.Nat.{not-suc-le-zero}
use native.Mathlib.Omega.{arith}
use mathlib.Core.Path.{◌≡◌, ap, ◌∙◌}
use mathlib.Core.Logic.{⊎_elim}
use mathlib.Core.Bool.{Bool, true, false}
use mathlib.Core.List.{List, map}
use mathlib.Core.Option.{none, some}
use lib.IntN.{ℤ}
use lib.Dec.{ltb}
use lib.ListN.{length, get_or}
use lib.Signed.{lt_z, le_z}
use borrow.Author.Tests.{ltb-true, ltb-false}
use Rattle.laws.specs.Lists.{eq_z, keep, first, span, not_descending}
use Rattle.laws.proofs.Bools.{both_ways, not-passed, true_or_false}
use Rattle.laws.proofs.Every.{none_by}
use Rattle.laws.proofs.Runs.{keep_run}
use Rattle.laws.proofs.First.{first-at, first_none}
use Rattle.laws.proofs.Order.{eq_z_true, eq_z_same, eq_z_sym, lt_z_apart, lt_z_else, lt_z_le_z, le_z_true, le_z_lt_z_trans, lt_z_neither, le_z_false, lt_z_le_z_trans, lt_z_true, le_z_refl}
use Rattle.laws.proofs.Ascending.{keys_not_descend}

-- the middle of two places is one that is looked at
pub middle_within : (lo hi : ℕ) → lo < hi → (lo ≤ lo + (hi - lo) / 2) × (lo + (hi - lo) / 2 < hi)
middle_within lo hi h = (omega arith, omega arith)

module _ {A : Type 0} (t : A → Bool) (xs : List A) (d : A) where
  -- the test passes at all places before the last at which it passes
  pub record Falls : Type 0 where
    pub before : (i j : ℕ) → i ≤ j → j < length xs → t (get_or xs j d) ≡ true → t (get_or xs i d) ≡ true

  -- the test passes at all places before lo, and fails at all from hi on
  pub record Between (lo hi : ℕ) : Type 0 where
    pub within : lo ≤ hi
    pub inside : hi ≤ length xs
    pub below : (i : ℕ) → i < lo → t (get_or xs i d) ≡ true
    pub above : (i : ℕ) → hi ≤ i → i < length xs → t (get_or xs i d) ≡ false

  pub between_start : Between 0 (length xs)
  between_start =
      record {
        within = zero-le;
        inside = omega arith;
        below = λ i h. absurd (not-suc-le-zero h);
        above = λ i h k. absurd (omega arith);
      }

  -- no place is left between: lo is the bound
  pub between_end : {lo hi : ℕ} → Between lo hi → hi ≤ lo → Between lo lo
  between_end {lo} {hi} b h =
      record {
        within = omega arith;
        inside = omega (arith, b.inside, b.within);
        below = b.below;
        above = λ i k m. b.above i (omega arith) m;
      }

  module _ (f : Falls) {lo hi : ℕ} (b : Between lo hi) (mid : ℕ) (l : lo ≤ mid) (h : mid < hi) where
    within_list : mid < length xs
    within_list = omega (arith, b.inside)

    -- the middle passes: the bound is behind it
    pub between_up : t (get_or xs mid d) ≡ true → Between (mid + 1) hi
    between_up e =
        record {
          within = omega arith;
          inside = b.inside;
          below = λ i k. f.before i mid (omega arith) within_list e;
          above = b.above;
        }

    -- the middle fails: the bound is not behind it
    pub between_down : t (get_or xs mid d) ≡ false → Between lo mid
    between_down e =
        record {
          within = l;
          inside = omega (arith, within_list);
          below = b.below;
          above = λ i k m. not-passed (t (get_or xs i d)) (λ p. both_ways (f.before mid i k m p) e);
        }

-- whether a key is less than a; whether it is at most a; whether it is a
module _ {A : Type 0} (key : A → ℤ) (a : ℤ) where
  abbrev pub less_than : A → Bool
  less_than r = lt_z (key r) a

  abbrev pub at_most : A → Bool
  at_most r = le_z (key r) a

  abbrev pub has_key : A → Bool
  has_key r = eq_z (key r) a

module _ {A : Type 0} (key : A → ℤ) (xs : List A) (d : A) (a : ℤ) where
  module _ (o : not_descending (map key xs) ≡ true) where
    pub falls_less : Falls (less_than key a) xs d
    falls_less =
        record {
          before = λ i j l h e. le_z_lt_z_trans (key (get_or xs i d)) (key (get_or xs j d)) a (keys_not_descend key xs d i j o l h) e;
        }

    module _ {lo : ℕ} (b : Between (less_than key a) xs d lo lo) where
      -- the key at the lower bound is a: that is the first
      pub lower_found : lo < length xs → has_key key a (get_or xs lo d) ≡ true → first (has_key key a) xs ≡ some (get_or xs lo d)
      lower_found h e = first-at (has_key key a) xs lo d h (λ k l. lt_z_apart (key (get_or xs k d)) a (b.below k l)) e

      -- it is another, or there is none: no key is a
      beyond : (i : ℕ) → lo ≤ i → i < length xs → has_key key a (get_or xs lo d) ≡ false → has_key key a (get_or xs i d) ≡ false
      beyond i l h n =
          let low = key (get_or xs lo d) in
          let more = lt_z_else low a (b.above lo (omega arith) (omega arith)) n in
          let there = lt_z_le_z_trans a low (key (get_or xs i d)) more (keys_not_descend key xs d lo i o l h) in
          eq_z_sym (key (get_or xs i d)) a ∙ lt_z_apart a (key (get_or xs i d)) there

      missing : (i : ℕ) → i < length xs → (lo ≤ i → has_key key a (get_or xs i d) ≡ false) → has_key key a (get_or xs i d) ≡ false
      missing i h f =
          ⊎_elim (λ e. lt_z_apart (key (get_or xs i d)) a (b.below i (ltb-true i lo e))) (λ e. f (ltb-false i lo e)) (true_or_false (ltb i lo))

      pub lower_missing : has_key key a (get_or xs lo d) ≡ false → first (has_key key a) xs ≡ none
      lower_missing n = first_none (has_key key a) xs (none_by (has_key key a) xs d (λ i h. missing i h (λ l. beyond i l h n)))

      pub lower_past : length xs ≤ lo → first (has_key key a) xs ≡ none
      lower_past p = first_none (has_key key a) xs (none_by (has_key key a) xs d (λ i h. missing i h (λ l. absurd (omega arith))))

      -- all whose key is a stand from the lower bound to the upper
      module _ {hi : ℕ} (c : Between (at_most key a) xs d hi hi) where
        pub lower_upper : lo ≤ hi
        lower_upper =
            ⊎_elim (λ e. absurd (clash (ltb-true hi lo e))) (λ e. ltb-false hi lo e) (true_or_false (ltb hi lo))
          where
            clash : hi < lo → ⊥
            clash l =
                both_ways (lt_z_le_z (key (get_or xs hi d)) a (b.below hi l)) (c.above hi (omega arith) (omega (arith, b.inside)))

        pub run_is : keep (has_key key a) xs ≡ span lo (hi - lo) xs
        run_is =
            keep_run (has_key key a) xs d lo hi lower_upper c.inside (λ i l. lt_z_apart (key (get_or xs i d)) a (b.below i l))
            (λ i l h. eq_z_same (key (get_or xs i d)) a (lt_z_neither (key (get_or xs i d)) a (b.above i l (omega (arith, c.inside))) (le_z_true (key (get_or xs i d)) a (c.below i h))))
            (λ i l h. eq_z_sym (key (get_or xs i d)) a ∙ lt_z_apart a (key (get_or xs i d)) (le_z_false (key (get_or xs i d)) a (c.above i l h)))

      -- an upper bound that was walked to from the lower: every key on the way is a, and the next is another
      module _ (hi : ℕ) (l : lo ≤ hi) (h : hi ≤ length xs) (on : (i : ℕ) → lo ≤ i → i < hi → has_key key a (get_or xs i d) ≡ true) (off : hi < length xs → has_key key a (get_or xs hi d) ≡ false) where
        on_most : (i : ℕ) → lo ≤ i → i < hi → at_most key a (get_or xs i d) ≡ true
        on_most i m k = ap (λ (x : ℤ). le_z x a) (eq_z_true (key (get_or xs i d)) a (on i m k)) ∙ le_z_refl a

        walked_below : (i : ℕ) → i < hi → at_most key a (get_or xs i d) ≡ true
        walked_below i k =
            ⊎_elim (λ e. lt_z_le_z (key (get_or xs i d)) a (b.below i (ltb-true i lo e))) (λ e. on_most i (ltb-false i lo e) k) (true_or_false (ltb i lo))

        walked_above : (i : ℕ) → hi ≤ i → i < length xs → at_most key a (get_or xs i d) ≡ false
        walked_above i k m =
            let next = key (get_or xs hi d) in
            let more = lt_z_else next a (b.above hi l (omega arith)) (off (omega arith)) in
            lt_z_true a (key (get_or xs i d)) (lt_z_le_z_trans a next (key (get_or xs i d)) more (keys_not_descend key xs d hi i o k m))

        pub upper_walked : Between (at_most key a) xs d hi hi
        upper_walked = record { within = omega arith; inside = h; below = walked_below; above = walked_above }
