-- The search among the ids of rows, step by step, and what it found among rows that are in order.
use Prim.Native.Nat.{ℕ, ◌+◌, ◌*◌, ◌-◌, ◌≤◌, ◌<◌}
use native.Mathlib.Omega.{arith}
use mathlib.Core.Path.{◌≡◌, sym, ap, subst, ◌∙◌}
use mathlib.Core.Bool.{Bool, true, cond}
use mathlib.Core.List.{List, [], map}
use lib.IntN.{ℤ, pos}
use lib.ListN.{length, get_or, length-map}
use lib.Signed.{lt_z}
use mir.Syntax.{w32}
use mir.Val.{SFits, to_z, of_z}
use mir.Facts.{to_z-of_z}
use Rattle.laws.specs.Lists.{not_descending}
use Rattle.laws.proofs.Maps.{map_at}
use Rattle.laws.proofs.Search.{Between, Falls, less_than, between_start, falls_less}
use Rattle.laws.proofs.Windows.{Counted, counted_start, counted-more, counted_end, narrowed}
use Rattle.search.specs.Bounds.{row_key, Lower}

module _ (rows : List (List ℕ)) (a : ℤ) where
  pub lower_start : Lower rows a 0 (length rows)
  lower_start f = between_start (less_than row_key a) rows []

  -- what was found for the bits of an id was found for the id
  pub lower_own : {lo hi : ℕ} → SFits w32 a → Lower rows (to_z w32 (of_z w32 a)) lo hi → Lower rows a lo hi
  lower_own {lo} {hi} f w = subst (λ (z : ℤ). Lower rows z lo hi) (to_z-of_z f) w

  -- of the rows before k those before found have ids below a, and the others have not
  pub record CountedBelow (k found : ℕ) : Type 0 where
    pub up_to : found ≤ k
    pub counted : Falls (less_than row_key a) rows [] → Counted (less_than row_key a) rows [] k found

  pub counts_start : {lo hi : ℕ} → Lower rows a lo hi → CountedBelow lo lo
  counts_start w = record { up_to = omega arith; counted = λ f. counted_start (less_than row_key a) rows [] (w f) }

  pub counts_end : {lo hi k found : ℕ} → Lower rows a lo hi → CountedBelow k found → hi ≤ k → Lower rows a found found
  counts_end w c l f = counted_end (less_than row_key a) rows [] (w f) (c.counted f) l

  -- a step by the id that was read in row k
  stepped : {x : ℕ} {t : Bool} (m k : ℕ) → lt_z (row_key (get_or rows k [])) a ≡ t → x ≡ cond t m 0 → x ≡ cond (less_than row_key a (get_or rows k [])) m 0
  stepped m k e p = p ∙ ap (λ (t : Bool). cond t m 0) (sym e)

  pub lower_narrowed
      : {x y z : ℕ} {s u v : Bool} (lo left q : ℕ) → Lower rows a lo (lo + left) → 0 < q → 4 * q ≤ left
      → lt_z (row_key (get_or rows (lo + q - 1) [])) a ≡ s → x ≡ cond s q 0
      → lt_z (row_key (get_or rows (lo + 2 * q - 1) [])) a ≡ u → y ≡ cond u q 0
      → lt_z (row_key (get_or rows (lo + 3 * q - 1) [])) a ≡ v → z ≡ cond v q 0
      → Lower rows a (lo + x + y + z) (lo + x + y + z + (left - 3 * q))
  lower_narrowed lo left q w m four e p e2 p2 e3 p3 f =
      narrowed (less_than row_key a) rows [] f q (w f) m four (stepped q (lo + q - 1) e p) (stepped q (lo + 2 * q - 1) e2 p2) (stepped q (lo + 3 * q - 1) e3 p3)

  pub counts-more : {k found x : ℕ} {t : Bool} → CountedBelow k found → k < length rows → lt_z (row_key (get_or rows k [])) a ≡ t → x ≡ cond t 1 0 → x ≤ 1 → CountedBelow (k + 1) (found + x)
  counts-more {k} c l e p few =
      record {
        up_to = omega (arith, c.up_to);
        counted = λ f. counted-more (less_than row_key a) rows [] f (c.counted f) l (stepped 1 k e p);
      }

  -- the same bound among the ids alone
  pub lower_keys : {lo hi : ℕ} → not_descending (map row_key rows) ≡ true → Lower rows a lo hi → Between (λ x. lt_z x a) (map row_key rows) (pos 0) lo hi
  lower_keys {lo} {hi} o w =
      let b = w (falls_less row_key rows [] a o) in
      record {
        within = b.within;
        inside = rw (length-map rows row_key) b.inside;
        below = λ i l. ap (λ (x : ℤ). lt_z x a) (map_at row_key rows i [] (pos 0) (omega (arith, b.within, b.inside))) ∙ b.below i l;
        above = λ i l h. let k : i < length rows = rw (length-map rows row_key) at h in ap (λ (x : ℤ). lt_z x a) (map_at row_key rows i [] (pos 0) k) ∙ b.above i l k;
      }

-- the machine's test on an id's bits m
pub told_less : (x : ℤ) (m : ℕ) (a : ℤ) → of_z w32 x ≡ m → lt_z (to_z w32 m) a ≡ lt_z (to_z w32 (of_z w32 x)) a
told_less x m a b = ap (λ (k : ℕ). lt_z (to_z w32 k) a) (sym b)
