-- The first row that leads back to itself, in row order; and that there is none where ranks fall.
use Prim.Native.Nat.{ℕ, zero, suc, ◌+◌, ◌-◌, ◌≤◌, ◌<◌}
use native.Mathlib.Omega.{arith}
use mathlib.Core.Path.{◌≡◌, refl, sym, ap, ◌∙◌}
use mathlib.Core.Bool.{true, false}
use mathlib.Core.List.{List, [], ◌∷◌}
use mathlib.Core.Option.{none, some}
use lib.ListN.{length, get_or}
use Rattle.laws.specs.Lists.{from}
use Rattle.laws.proofs.Bools.{not-passed}
use Rattle.laws.proofs.From.{from_step, from_end}
use Rattle.rules.specs.Value.{World}
use Rattle.promises.specs.NoMemory.{no_row}
use Rattle.needs.proofs.Showing.{need_inside}
use Rattle.order.specs.Ranks.{num, Ranked}
use Rattle.loops.specs.Loop.{backs, loop_among, loop_at}
use Rattle.loops.proofs.Spreads.{hands_on}

module _ (w : World) where
  here : (i : ℕ) (is : List ℕ) → backs w i ≡ true → loop_among w (i ∷ is) ≡ some (get_or w.rows i no_row).object
  unfolding loop_among
  here i is e = rw (loop_among, e) refl

  past : (i : ℕ) (is : List ℕ) → backs w i ≡ false → loop_among w (i ∷ is) ≡ loop_among w is
  unfolding loop_among
  past i is e = rw (loop_among, e) refl

  nothing_left : loop_among w [] ≡ none
  unfolding loop_among
  nothing_left = refl

  -- ---- the rows from i on decide

  pub left_start : {n : ℕ} → n ≡ length w.rows → loop_at w ≡ loop_among w (from 0 (n - 0))
  unfolding loop_at
  left_start {n} e = let all : length w.rows ≡ n - 0 = omega (arith, e) in ap (λ (l : ℕ). loop_among w (from 0 l)) all

  module _ {n i : ℕ} where
    pub left_found : i < n → backs w i ≡ true → loop_at w ≡ loop_among w (from i (n - i)) → some (get_or w.rows i no_row).object ≡ loop_at w
    left_found l e h = sym (h ∙ ap (loop_among w) (from_step i n l) ∙ here i (from (i + 1) (n - (i + 1))) e)

    pub left_next : i < n → backs w i ≡ false → loop_at w ≡ loop_among w (from i (n - i)) → loop_at w ≡ loop_among w (from (i + 1) (n - (i + 1)))
    left_next l e h = h ∙ ap (loop_among w) (from_step i n l) ∙ past i (from (i + 1) (n - (i + 1))) e

    pub left_none : n ≤ i → loop_at w ≡ loop_among w (from i (n - i)) → none ≡ loop_at w
    left_none l h = sym (h ∙ ap (loop_among w) (from_end i n l) ∙ nothing_left)

  -- ---- ranks

  none_among : (a n : ℕ) → ((i : ℕ) → a ≤ i → i < a + n → backs w i ≡ false) → loop_among w (from a n) ≡ none
  none_among a zero f = nothing_left
  none_among a (suc n) f = past a (from (suc a) n) (f a (omega arith) (omega arith)) ∙ none_among (suc a) n (λ i l h. f i (omega (arith, l)) (omega (arith, h)))

  -- where ranks fall along needs no row leads back to itself
  pub ranked_none : {c : List (List ℕ)} → Ranked w c → loop_at w ≡ none
  unfolding loop_at
  ranked_none {c} R = none_among 0 (length w.rows) (λ i l h. not-passed (backs w i) (λ e. omega (arith, lower i (omega (arith, h)) e)))
    where
      lower : (i : ℕ) → i < length w.rows → backs w i ≡ true → num c i 1 < num c i 1
      lower i h e = (hands_on w i P (λ s k f. (need_inside w i s k f, R.falls i s k h f)) (λ j s k p f. (need_inside w j s k f, omega (arith, p.1, R.falls j s k p.0 f))) e).1
        where
          P : ℕ → Type 0
          P j = (j < length w.rows) × (num c j 1 < num c i 1)
