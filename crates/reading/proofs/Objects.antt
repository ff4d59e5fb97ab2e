-- Where the objects stand by rank: the ship is one, mode and char end at the char, the projected ones follow.
use Prim.Native.Nat.{ℕ, suc, ◌+◌, ◌-◌, ◌≤◌, ◌<◌, zero-le}
use native.Mathlib.Nat.{not-suc-le-zero}
use native.Mathlib.Omega.{arith}
use mathlib.Core.Path.{◌≡◌, sym, ap, subst, ◌∙◌}
use mathlib.Core.Bool.{Bool, true, false, ◌||◌}
use mathlib.Core.List.{List, map}
use mathlib.Core.Logic.{⊎_elim}
use lib.Dec.{eqb, ltb}
use lib.ListN.{length, get_or, length-map}
use borrow.Author.Tests.{eqb-true, eqb-false, ltb-true, ltb-false}
use Rattle.laws.specs.Lists.{keep, span, every?}
use Rattle.laws.proofs.Bools.{and_left, true_or_false}
use Rattle.laws.proofs.Keep.{keep_same}
use Rattle.laws.proofs.Spans.{span_length}
use Rattle.rules.specs.Sheet.{Fit}
use Rattle.rules.specs.Shape.{stand, object_good, objects_good}
use Rattle.rules.specs.Item.{object, no_item, is_ship, is_mode, is_char, is_item, is_charge, is_skill, is_projected, char_of}
use Rattle.rules.specs.declared.Item.{Item}
use Rattle.info.proofs.StandingLaws.{Place, Standing}
use Rattle.info.proofs.Sheets as sheets
use Rattle.reading.specs.Order.{projected_end}
use Rattle.reading.proofs.Sorted.{below, Climbs, below_inside, below_climbs, below_is, keyed_run}
use Rattle.reading.proofs.Ranks.{rank, ranked, ranks_climb, ranks_end, ship_rank, past_ship_rank, char_rank, past_char_rank}

abbrev pub rank_of : Item → ℕ
rank_of o = rank o.kind

module _ (f : Fit) (good : objects_good f ≡ true) where
  abbrev os : List Item
  os = f.objects

  abbrev ks : List ℕ
  ks = map (λ o. o.kind) os

  stands : stand ks ≡ true
  unfolding objects_good
  stands = and_left (stand ks) (every? (object_good f) os) good

  abbrev kinds : Standing ks 7
  kinds = sheets.kinds f good

  long : length ks ≡ length os
  long = length-map os (λ o. o.kind)

  kind_at : (i : ℕ) → get_or ks i 7 ≡ (object f i).kind
  kind_at = sheets.kind_at f good

  place : (i : ℕ) → i < length os → Place kinds.at i (object f i).kind
  place i h = subst (λ (k : ℕ). Place kinds.at i k) (kind_at i) (kinds.place i (rw long h))

  char_at : kinds.at ≡ char_of f
  char_at = sheets.char_at f good

  char_in : kinds.at < length os
  char_in = omega (arith, kinds.inside, long)

  -- how many objects are of ranks below r
  abbrev pub ends : ℕ → ℕ
  ends r = below rank_of os no_item r

  pub ranks : Climbs rank_of os no_item
  ranks i j l h =
      omega (arith, ranks_climb 7 ks stands i j l (rw long h), ap rank (kind_at i), ap rank (kind_at j))

  pub ends_inside : (r : ℕ) → ends r ≤ length os
  ends_inside r = below_inside rank_of os no_item ranks r

  pub ends_climb : (r s : ℕ) → r ≤ s → ends r ≤ ends s
  ends_climb r s l = below_climbs rank_of os no_item ranks r s l

  pub ends_none : ends 0 ≡ 0
  ends_none = below_is rank_of os no_item ranks 0 0 zero-le (λ j h. absurd (not-suc-le-zero h)) (λ h. zero-le)

  pub ends_ship : ends 1 ≡ 1
  ends_ship =
      below_is rank_of os no_item ranks 1 1 (omega (arith, char_in)) (λ j h. ship_rank kinds.early h (place j (omega (arith, char_in))))
      (λ h. past_ship_rank kinds.early (omega arith) (place 1 h))

  pub ends_char : ends 3 ≡ char_of f + 1
  ends_char =
      below_is rank_of os no_item ranks 3 (char_of f + 1) (omega (arith, char_in, char_at))
      (λ j h. char_rank kinds.early (omega (arith, char_at)) (place j (omega (arith, char_in, char_at))))
      (λ h. past_char_rank kinds.early (omega (arith, char_at)) (place (char_of f + 1) h))

  pub ends_all : ends 6 ≡ length os
  ends_all =
      below_is rank_of os no_item ranks 6 (length os) (omega arith)
      (λ j h. omega (arith, ranks_end 7 ks stands j (rw long h), ap rank (kind_at j))) (λ h. absurd (omega arith))

  -- the objects of one rank
  run : (p : Item → Bool) (r : ℕ) → ((o : Item) → p o ≡ eqb (rank_of o) r) → keep p os ≡ span (ends r) (ends (suc r) - ends r) os
  run p r e = keep_same p (λ o. eqb (rank_of o) r) e os ∙ keyed_run rank_of os no_item ranks r

  pub ships : keep is_ship os ≡ span (ends 0) (ends 1 - ends 0) os
  ships = run is_ship 0 (λ o. (ranked o.kind).ship)

  pub modes : keep is_mode os ≡ span (ends 1) (ends 2 - ends 1) os
  modes = run is_mode 1 (λ o. (ranked o.kind).mode)

  pub chars : keep is_char os ≡ span (ends 2) (ends 3 - ends 2) os
  chars = run is_char 2 (λ o. (ranked o.kind).char)

  pub projected : keep is_projected os ≡ span (ends 3) (ends 4 - ends 3) os
  projected = run is_projected 3 (λ o. (ranked o.kind).projected)

  pub fitted : keep (λ o. is_item o || is_charge o) os ≡ span (ends 4) (ends 5 - ends 4) os
  fitted = run (λ o. is_item o || is_charge o) 4 (λ o. (ranked o.kind).fitted)

  pub skills : keep is_skill os ≡ span (ends 5) (ends 6 - ends 5) os
  skills = run is_skill 5 (λ o. (ranked o.kind).skill)

  pub ends_projected : ends 4 ≡ projected_end f
  ends_projected =
      omega (arith, ap length projected, span_length (ends 3) (ends 4 - ends 3) os (omega (arith, up, ends_inside 4)), ends_char, up)
    where
      up : ends 3 ≤ ends 4
      up = ends_climb 3 4 (omega arith)

  -- the end of the projected ones by their kind
  module _ (e : ℕ) (start : char_of f + 1 ≤ e) (inside : e ≤ length os) (on : (j : ℕ) → char_of f + 1 ≤ j → j < e → is_projected (object f j) ≡ true) where
    of_rank : (j : ℕ) → is_projected (object f j) ≡ true → rank_of (object f j) ≡ 3
    of_rank j h = eqb-true (rank_of (object f j)) 3 (sym (ranked (object f j).kind).projected ∙ h)

    before : (j : ℕ) → j < e → rank_of (object f j) < 4
    before j h =
        ⊎_elim (λ m. omega (arith, char_rank kinds.early (omega (arith, char_at, ltb-true j (char_of f + 1) m)) (place j (omega arith))))
        (λ m. omega (arith, of_rank j (on j (ltb-false j (char_of f + 1) m) h)))
        (true_or_false (ltb j (char_of f + 1)))

    past : (h : e < length os) → is_projected (object f e) ≡ false → 4 ≤ rank_of (object f e)
    past h n =
        ⊎_elim (λ m. omega (arith, ltb-true 3 (rank_of (object f e)) m))
        (λ m. absurd (eqb-false (rank_of (object f e)) 3 (sym (ranked (object f e).kind).projected ∙ n) (omega (arith, three, ltb-false 3 (rank_of (object f e)) m))))
        (true_or_false (ltb 3 (rank_of (object f e))))
      where
        three : 3 ≤ rank_of (object f e)
        three = past_char_rank kinds.early (omega (arith, char_at)) (place e h)

    pub projected_is : (e < length os → is_projected (object f e) ≡ false) → e ≡ projected_end f
    projected_is off = sym (below_is rank_of os no_item ranks 4 e inside before (λ h. past h (off h))) ∙ ends_projected
