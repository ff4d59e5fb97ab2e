-- The walk's order is by turns: objects stand by rank, and their rows by object.
use Prim.Native.Nat.{ℕ, zero, suc, ◌+◌, ◌-◌, ◌≤◌, ◌<◌, zero-le}
use native.Mathlib.Nat.{add-zero, zero-add, add-suc, not-suc-le-zero}
use native.Mathlib.Numerals.{add-one}
use native.Mathlib.Omega.{arith}
use mathlib.Core.Path.{◌≡◌, refl, sym, ap, ap₂, ◌∙◌}
use mathlib.Core.Bool.{true, ◌||◌}
use mathlib.Core.List.{List, ◌++◌, append_assoc}
use mathlib.Core.Logic.{⊎_elim}
use lib.Dec.{eqb, ltb}
use lib.ListN.{length, get_or}
use borrow.Author.Tests.{ltb-true, ltb-false}
use Rattle.laws.specs.Lists.{keep, flat, span}
use Rattle.laws.proofs.Bools.{true_or_false}
use Rattle.laws.proofs.Keep.{keep_all}
use Rattle.laws.proofs.Flat.{flat_append}
use Rattle.laws.proofs.Spans.{flat_span_next}
use Rattle.laws.proofs.From.{table-length, table_at}
use Rattle.rules.specs.Sheet.{Fit}
use Rattle.rules.specs.Shape.{objects_good}
use Rattle.rules.specs.Item.{object, no_item, is_ship, is_mode, is_char, is_item, is_charge, is_projected, char_of}
use Rattle.rules.specs.Dispatch.{Row}
use Rattle.rules.specs.Outcome.{walk_order}
use Rattle.rules.specs.declared.Item.{Item}
use Rattle.reading.specs.Held.{no_row, ascending}
use Rattle.reading.proofs.Orders.{ascending_far}
use Rattle.reading.specs.declared.turns.Turns.{Turns}
use Rattle.reading.specs.Order.{rows_below, projected_end, walked_at, Ordered, owned, TurnsOf}
use Rattle.reading.proofs.Laying.{before-most}
use Rattle.reading.proofs.Sorted.{Climbs, below_inside, below_climbs, below_is, keyed_run, span_join}
use Rattle.reading.proofs.Shifted.{shifted}
use Rattle.reading.proofs.Objects.{ends, ends_inside, ends_climb, ends_none, ends_ship, ends_char, ends_projected, ends_all, ships, modes, chars, projected, fitted, skills}

-- ---- rows stand by object

pub objects_climb : (rs : List Row) → ascending rs ≡ true → Climbs (λ r. r.object) rs no_row
objects_climb rs h i j l m = ⊎_elim (λ e. earlier (ltb-true i j e)) (λ e. same (omega (arith, ltb-false i j e))) (true_or_false (ltb i j))
  where
    earlier : i < j → (get_or rs i no_row).object ≤ (get_or rs j no_row).object
    earlier k = before-most (get_or rs i no_row).object (get_or rs i no_row).id (get_or rs j no_row).object (get_or rs j no_row).id (ascending_far rs no_row h i j k m)

    same : i ≡ j → (get_or rs i no_row).object ≤ (get_or rs j no_row).object
    same e = rw e (omega arith)

module _ (rs : List Row) (c : Climbs (λ r. r.object) rs no_row) where
  below_rows : (a b : ℕ) → a ≤ b → rows_below a rs ≤ rows_below b rs
  below_rows a b l = below_climbs (λ r. r.object) rs no_row c a b l

  abbrev rows_at : Item → List Row
  rows_at o = keep (λ r. eqb r.object o.number) rs

  -- the rows of the objects from x on to y
  abbrev stretch : ℕ → ℕ → List Row
  stretch x y = span (rows_below x rs) (rows_below y rs - rows_below x rs) rs

  joined : (x y z : ℕ) → x ≤ y → y ≤ z → stretch x y ++ stretch y z ≡ stretch x z
  joined x y z l m = span_join rs (rows_below x rs) (rows_below y rs) (rows_below z rs) (below_rows x y l) (below_rows y z m)

  module _ (f : Fit) (number : (i : ℕ) → i < length f.objects → (object f i).number ≡ i) where
    one : (i : ℕ) → i < length f.objects → rows_at (object f i) ≡ stretch i (suc i)
    one i h = ap (λ (n : ℕ). keep (λ r. eqb r.object n) rs) (number i h) ∙ keyed_run (λ r. r.object) rs no_row c i

    spread : (x m : ℕ) → x + m ≤ length f.objects → flat rows_at (span x m f.objects) ≡ stretch x (x + m)
    spread x zero h = ap (λ (n : ℕ). span (rows_below x rs) n rs) none
      where
        none : 0 ≡ rows_below (x + 0) rs - rows_below x rs
        none = rw (add-zero x) (omega arith)
    spread x (suc m) h =
        ap (λ (n : ℕ). flat rows_at (span x n f.objects)) (sym (add-one m))
        ∙ flat_span_next x m f.objects no_item (omega arith) rows_at
        ∙ ap₂ (λ (l r : List Row). l ++ r) (spread x m (omega arith)) (one (x + m) (omega arith))
        ∙ joined x (x + m) (suc (x + m)) (omega arith) (omega arith)
        ∙ ap (stretch x) (sym (add-suc x m))

    spread_to : (x y : ℕ) → x ≤ y → y ≤ length f.objects → flat rows_at (span x (y - x) f.objects) ≡ stretch x y
    spread_to x y l h = spread x (y - x) (omega arith) ∙ ap (stretch x) sum
      where
        sum : x + (y - x) ≡ y
        sum = omega arith

    module _ (good : objects_good f ≡ true) where
      -- the rows of the objects of rank r
      ranked_rows : (r : ℕ) {ks : List Item} → ks ≡ span (ends f good r) (ends f good (suc r) - ends f good r) f.objects → flat rows_at ks ≡ stretch (ends f good r) (ends f good (suc r))
      ranked_rows r e = ap (flat rows_at) e ∙ spread_to (ends f good r) (ends f good (suc r)) (ends_climb f good r (suc r) (omega arith)) (ends_inside f good (suc r))

      in_ranks : walk_order f.objects rs
          ≡ stretch (ends f good 0) (ends f good 1) ++ (stretch (ends f good 3) (ends f good 4) ++ (stretch (ends f good 1) (ends f good 2) ++ (stretch (ends f good 2) (ends f good 3) ++ (stretch (ends f good 4) (ends f good 5) ++ stretch (ends f good 5) (ends f good 6)))))
      unfolding walk_order
      in_ranks =
          flat_append rows_at (keep is_ship f.objects) _
          ∙ ap₂ (λ (l r : List Row). l ++ r) (ranked_rows 0 (ships f good)) (flat_append rows_at (keep is_projected f.objects) _
          ∙ ap₂ (λ (l r : List Row). l ++ r) (ranked_rows 3 (projected f good)) (flat_append rows_at (keep is_mode f.objects) _
          ∙ ap₂ (λ (l r : List Row). l ++ r) (ranked_rows 1 (modes f good)) (flat_append rows_at (keep is_char f.objects) _
          ∙ ap₂ (λ (l r : List Row). l ++ r) (ranked_rows 2 (chars f good)) (flat_append rows_at (keep (λ o. is_item o || is_charge o) f.objects) _
          ∙ ap₂ (λ (l r : List Row). l ++ r) (ranked_rows 4 (fitted f good)) (ranked_rows 5 (skills f good))))))

      up : (r s : ℕ) → r ≤ s → ends f good r ≤ ends f good s
      up r s l = ends_climb f good r s l

      in_parts : walk_order f.objects rs
          ≡ stretch 0 1 ++ (stretch (char_of f + 1) (projected_end f) ++ (stretch 1 (char_of f + 1) ++ stretch (projected_end f) (length f.objects)))
      in_parts =
          in_ranks
          ∙ ap (λ (l : List Row). stretch (ends f good 0) (ends f good 1) ++ (stretch (ends f good 3) (ends f good 4) ++ l)) owners
          ∙ rw (ends_none f good, ends_ship f good, ends_char f good, ends_projected f good, ends_all f good) refl
        where
          owners : stretch (ends f good 1) (ends f good 2) ++ (stretch (ends f good 2) (ends f good 3) ++ (stretch (ends f good 4) (ends f good 5) ++ stretch (ends f good 5) (ends f good 6)))
              ≡ stretch (ends f good 1) (ends f good 3) ++ stretch (ends f good 4) (ends f good 6)
          owners =
              sym (append_assoc (stretch (ends f good 1) (ends f good 2)) (stretch (ends f good 2) (ends f good 3)) _)
              ∙ ap₂ (λ (l r : List Row). l ++ r) (joined (ends f good 1) (ends f good 2) (ends f good 3) (up 1 2 (omega arith)) (up 2 3 (omega arith)))
              (joined (ends f good 4) (ends f good 5) (ends f good 6) (up 4 5 (omega arith)) (up 5 6 (omega arith)))

      -- what bounds the rows of ship, of mode and char, and of the projected ones makes the turns
      pub turns_are : (t : Turns) → t.ship ≡ rows_below 1 rs → t.character ≡ rows_below (char_of f + 1) rs → t.projected ≡ rows_below (projected_end f) rs → owned (length f.objects) rs ≡ true → TurnsOf f rs t
      turns_are t s k p o = record { ordered = ordered; inside = inside; order = in_parts ∙ parts ∙ shifted rs no_row t ordered inside }
        where
          ordered : Ordered t
          ordered = record {
            ship = omega (arith, s, k, below_rows 1 (char_of f + 1) (omega arith));
            character = omega (arith, k, p, below_rows (char_of f + 1) (projected_end f) (omega arith));
          }

          inside : t.projected ≤ length rs
          inside = omega (arith, p, below_inside (λ r. r.object) rs no_row c (projected_end f))

          none : rows_below 0 rs ≡ 0
          none = below_is (λ r. r.object) rs no_row c 0 0 zero-le (λ j h. absurd (not-suc-le-zero h)) (λ h. zero-le)

          first : rows_below 1 rs - rows_below 0 rs ≡ t.ship
          first = omega (arith, none, s)

          all : rows_below (length f.objects) rs ≡ length rs
          all = ap length (keep_all (λ r. ltb r.object (length f.objects)) rs o)

          parts : stretch 0 1 ++ (stretch (char_of f + 1) (projected_end f) ++ (stretch 1 (char_of f + 1) ++ stretch (projected_end f) (length f.objects)))
              ≡ span 0 t.ship rs ++ (span t.character (t.projected - t.character) rs ++ (span t.ship (t.character - t.ship) rs ++ span t.projected (length rs - t.projected) rs))
          parts =
              ap₂ (λ (l r : List Row). l ++ r) (ap₂ (λ (a n : ℕ). span a n rs) none first)
              (ap₂ (λ (l r : List Row). l ++ r) (ap₂ (λ (a b : ℕ). span a (b - a) rs) (sym k) (sym p))
              (ap₂ (λ (l r : List Row). l ++ r) (ap₂ (λ (a b : ℕ). span a (b - a) rs) (sym s) (sym k)) (ap₂ (λ (a b : ℕ). span a (b - a) rs) (sym p) all)))

-- ---- turn by turn

module _ {f : Fit} {rs : List Row} {t : Turns} (T : TurnsOf f rs t) where
  pub turns_long : length (walk_order f.objects rs) ≡ length rs
  turns_long = ap length T.order ∙ table-length (λ k. get_or rs (walked_at t k) no_row) 0 (length rs)

  pub turn_at : (k : ℕ) → k < length rs → get_or (walk_order f.objects rs) k no_row ≡ get_or rs (walked_at t k) no_row
  turn_at k h =
      ap (λ (l : List Row). get_or l k no_row) T.order ∙ table_at (λ j. get_or rs (walked_at t j) no_row) 0 (length rs) k no_row h
      ∙ ap (λ (j : ℕ). get_or rs (walked_at t j) no_row) (zero-add k)
