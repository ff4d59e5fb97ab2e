-- What a good table says, and that admissions and leavings keep it good: rows are conserved.
use Prim.Native.Nat.{ℕ, zero, suc, ◌+◌, ◌-◌, ◌≤◌, ◌<◌, max}
use native.Mathlib.Omega.{arith}
use native.Mathlib.Nat.{zero-add}
use mathlib.Core.Path.{◌≡◌, refl, sym, ap, ◌∙◌, subst}
use mathlib.Core.Bool.{Bool, true, false, ◌&&◌, ◌||◌, not}
use mathlib.Core.List.{List, [], ◌∷◌, ◌++◌, map}
use mathlib.Core.Option.{some}
use lib.Dec.{leb, ltb, eqb}
use lib.ListN.{length, take, drop, get_or, set, replicate, length-append, length-drop, length-set}
use lib.Seq.{length-take-le, get_or-set_same, get_or-set_other}
use borrow.Author.Tests.{leb-true, ltb-true, ltb-false, eqb-true, eqb-false, eq-eqb, le-leb}
use Rattle.laws.specs.Lists.{every?, from}
use Rattle.laws.proofs.Bools.{and_left, and_right, and_both}
use Rattle.laws.proofs.From.{table_at, table-length, is-table}
use Rattle.free_table.specs.declared.Stretch.{Stretch}
use Rattle.free_table.specs.Table.{empty}
use Rattle.seats.specs.Tiling.{end_of, holds, one, how_many, inside, tiled, lengths}
use Rattle.seats.specs.Tests.{overlaps}
use Rattle.seats.specs.Seats.{Hall, free_of, seat_of, seats_of, all, apart, same_pair, same_five, table_good, Cut, cut_first, in_order, freed, tabled, five, with_seat}
use Rattle.seats.proofs.Tiles.{each_row, rows_by, clear_from_lem, in_by, tiled-lengths}
use Rattle.seats.proofs.Rows.{cut_rows, joined_rows, in_order_rows}
use Rattle.seats.proofs.Apart.{cut_apart, leaver-apart, apart_long, apart_tail}
use Rattle.seats.proofs.Same.{Tiles, tiles, tiled-by, none_held, many_append, lengths_append}
use Rattle.seats.proofs.Few.{is_in_lem, free_few}

pub record Good (h : Hall) : Type 0 where
  pub room : 17 ≤ length h.table
  pub count : h.count ≤ length h.table
  pub same : every? (same_five h.seats) (from 0 16) ≡ true
  pub ordered : apart (free_of h) ≡ true
  pub tiling : tiled h.rows (all h) ≡ true

pub good : {h : Hall} → table_good h ≡ true → Good h
unfolding table_good
good {h} e =
    let a = leb 17 (length h.table) in
    let b = leb h.count (length h.table) in
    let c = every? (same_five h.seats) (from 0 16) in
    let d = apart (free_of h) in
    let four = and_left (a && b && c && d) (tiled h.rows (all h)) e in
    let three = and_left (a && b && c) d four in
    let two = and_left (a && b) c three in
    record {
      room = leb-true 17 (length h.table) (and_left a b two);
      count = leb-true h.count (length h.table) (and_right a b two);
      same = and_right (a && b) c three;
      ordered = and_right (a && b && c) d four;
      tiling = and_right (a && b && c && d) (tiled h.rows (all h)) e;
    }

pub good_by : {h : Hall} → Good h → table_good h ≡ true
unfolding table_good
good_by {h} g =
    and_both (and_both (and_both (and_both (le-leb 17 (length h.table) g.room) (le-leb h.count (length h.table) g.count)) g.same) g.ordered) g.tiling

pub seats_long : (h : Hall) → length (seats_of h) ≡ 16
seats_long h = table-length (seat_of h.seats) 0 16

pub seat-at : (ss : List (List (List ℕ))) (p : ℕ) → p < 16 → get_or (map (seat_of ss) (from 0 16)) p empty ≡ seat_of ss p
seat-at ss p h = table_at (seat_of ss) 0 16 p empty h ∙ ap (seat_of ss) (zero-add p)

-- one of a list holds a row: so do they all together
pub many_at : (i : ℕ) (l : List Stretch) (k : ℕ) → k < length l → one (holds i (get_or l k empty)) ≤ how_many i l
many_at i [] k h = absurd (omega (arith, h))
many_at i (s ∷ r) zero h = omega arith
many_at i (s ∷ r) (suc k) h = let z = many_at i r k (omega (arith, h)) in omega (arith, z)

module _ {h : Hall} (g : Good h) where
  pub free_long : length (free_of h) ≡ h.count
  free_long = length-take-le h.count h.table g.count

  pub tiling_of : Tiles h.rows (free_of h ++ seats_of h)
  tiling_of = tiles g.tiling

  -- "18 that are apart are in no good table"
  pub good_few : h.count ≤ 17
  good_few =
      let z = free_few h.rows (free_of h) (seats_of h) tiling_of g.ordered in
      let y = free_long in
      let x = seats_long h in omega (arith, z, y, x)

  pub rows_of : (i : ℕ) → i < h.rows → how_many i (free_of h) + how_many i (seats_of h) ≡ 1
  rows_of i l = sym (many_append i (free_of h) (seats_of h)) ∙ tiling_of.rows i l

  pub none_above : (i : ℕ) → h.rows ≤ i → how_many i (free_of h) + how_many i (seats_of h) ≡ 0
  none_above i l = sym (many_append i (free_of h) (seats_of h)) ∙ tiling_of.above i l

  -- a row that is someone's is of the pool
  pub in_pool : (i : ℕ) → 1 ≤ how_many i (free_of h) + how_many i (seats_of h) → i < h.rows
  in_pool i l = by (ltb i h.rows) refl
    where
      by : (b : Bool) → ltb i h.rows ≡ b → i < h.rows
      by true e = ltb-true i h.rows e
      by false e = absurd (let z = none_above i (ltb-false i h.rows e) in omega (arith, z, l))

  -- "Free rows plus the lengths of those admitted make the whole pool"
  pub good_conserves : lengths (free_of h) + lengths (seats_of h) ≡ h.rows
  good_conserves = sym (lengths_append (free_of h) (seats_of h)) ∙ tiled-lengths h.rows (all h) g.tiling

  seat_many : (i p : ℕ) → p < 16 → one (holds i (seat_of h.seats p)) ≤ how_many i (seats_of h)
  seat_many i p l = subst (λ (s : Stretch). one (holds i s) ≤ how_many i (seats_of h)) (seat-at h.seats p l) (many_at i (seats_of h) p (let z = seats_long h in omega (arith, z, l)))

  -- a pilot's rows are of the pool, and none of them is free
  pub seat-row : (p i : ℕ) → p < 16 → holds i (seat_of h.seats p) ≡ true → (i < h.rows) × (how_many i (free_of h) ≡ 0)
  seat-row p i l e =
      let one-is : one (holds i (seat_of h.seats p)) ≡ 1 = ap one e in
      let z = seat_many i p l in
      let below = in_pool i (omega (arith, z, one-is)) in
      (below, (let y = rows_of i below in omega (arith, y, z, one-is)))

  pub seat_end : (p : ℕ) → p < 16 → 0 < (seat_of h.seats p).length → end_of (seat_of h.seats p) ≤ h.rows
  seat_end p l k =
      let z = seat-row p (end_of (seat_of h.seats p) - 1) l (in_by (end_of (seat_of h.seats p) - 1) (seat_of h.seats p) (omega (arith, k)) (omega (arith, k))) in
      let y = z.0 in omega (arith, y, k)

  pub seat_clear : (p : ℕ) → p < 16 → every? (λ t. not (overlaps (seat_of h.seats p) t)) (free_of h) ≡ true
  seat_clear p l = clear_from_lem h.rows (seat_of h.seats p) inside_it (free_of h) (λ i k e. (seat-row p i l e).1)
    where
      inside_it : inside h.rows (seat_of h.seats p) ≡ true
      inside_it = by (eqb (seat_of h.seats p).length 0) refl
        where
          by : (b : Bool) → eqb (seat_of h.seats p).length 0 ≡ b → b || leb (end_of (seat_of h.seats p)) h.rows ≡ true
          by true e = refl
          by false e = le-leb (end_of (seat_of h.seats p)) h.rows (seat_end p l (let z = eqb-false (seat_of h.seats p).length 0 e in omega (arith, z)))

-- none of those in use is empty
pub none_empty : (l : List Stretch) → apart l ≡ true → (k : ℕ) → k < length l → 0 < (get_or l k empty).length
none_empty [] a k h = absurd (omega (arith, h))
none_empty (s ∷ r) a zero h = apart_long s r a
none_empty (s ∷ r) a (suc k) h = none_empty r (apart_tail s r a) k (omega (arith, h))

pub free_end : {h : Hall} → Good h → (k : ℕ) → k < h.count → end_of (get_or (free_of h) k empty) ≤ h.rows
free_end {h} g k l =
    let fits : k < length (free_of h) = (let z = free_long g in omega (arith, z, l)) in
    let long = none_empty (free_of h) g.ordered k fits in
    let s = get_or (free_of h) k empty in
    let z = many_at (end_of s - 1) (free_of h) k fits in
    let y = is_in_lem (end_of s - 1) s (omega (arith, long)) (omega (arith, long)) in
    let x = in_pool g (end_of s - 1) (omega (arith, z, y)) in omega (arith, x, long)

-- ---- a pilot's five pairs written

many_set : (i : ℕ) (l : List Stretch) (p : ℕ) (s : Stretch) → p < length l → how_many i (set l p s) + one (holds i (get_or l p empty)) ≡ how_many i l + one (holds i s)
many_set i [] p s h = absurd (omega (arith, h))
many_set i (t ∷ r) zero s h = omega arith
many_set i (t ∷ r) (suc p) s h = let z = many_set i r p s (omega (arith, h)) in omega (arith, z)

abbrev row_same : List (List ℕ) → Bool
row_same row = every? (λ l. same_pair (get_or row 0 []) (get_or row (l - 1) [])) (from 2 4)

five_same : (s : Stretch) → row_same (five s) ≡ true
five_same s = rw (eq-eqb s.start s.start refl, eq-eqb s.length s.length refl) refl

module _ (h : Hall) (g : Good h) (long : length h.seats ≡ 16) (p : ℕ) (pilot : p < 16) (s : Stretch) where
  abbrev ss : List (List (List ℕ))
  ss = set h.seats p (five s)

  row_same_lem : (q : ℕ) → (q ≡ p → ⊥) → get_or ss q [] ≡ get_or h.seats q []
  row_same_lem q n = get_or-set_other h.seats p q (five s) [] n

  row_own : get_or ss p [] ≡ five s
  row_own = get_or-set_same h.seats p (five s) [] (omega (arith, long, pilot))

  pub other_seat : (q : ℕ) → (q ≡ p → ⊥) → seat_of ss q ≡ seat_of h.seats q
  other_seat q n = ap (λ (row : List (List ℕ)). record { start = get_or (get_or row 0 []) 0 0; length = get_or (get_or row 0 []) 1 0 }) (row_same_lem q n)

  pub own_seat : seat_of ss p ≡ s
  own_seat = ap (λ (row : List (List ℕ)). record { start = get_or (get_or row 0 []) 0 0; length = get_or (get_or row 0 []) 1 0 }) row_own

  seats_set : map (seat_of ss) (from 0 16) ≡ set (seats_of h) p s
  seats_set = sym (is-table (seat_of ss) (set (seats_of h) p s) 16 empty (length-set (seats_of h) p s ∙ seats_long h) at_place)
    where
      at_place : (k : ℕ) → k < 16 → get_or (set (seats_of h) p s) k empty ≡ seat_of ss k
      at_place k l = by (eqb k p) refl
        where
          by : (b : Bool) → eqb k p ≡ b → get_or (set (seats_of h) p s) k empty ≡ seat_of ss k
          by true e =
              let here = eqb-true k p e in
              ap (λ (q : ℕ). get_or (set (seats_of h) p s) q empty) here ∙ get_or-set_same (seats_of h) p s empty (let z = seats_long h in omega (arith, z, pilot)) ∙ sym own_seat ∙ ap (seat_of ss) (sym here)
          by false e =
              let there = eqb-false k p e in
              get_or-set_other (seats_of h) p k s empty there ∙ seat-at h.seats k l ∙ sym (other_seat k there)

  five_good : every? (same_five ss) (from 0 16) ≡ true
  five_good = rows_by 16 (same_five ss) each
    where
      each : (q : ℕ) → q < 16 → same_five ss q ≡ true
      each q l = by (eqb q p) refl
        where
          by : (b : Bool) → eqb q p ≡ b → same_five ss q ≡ true
          by true e = ap row_same (ap (λ (k : ℕ). get_or ss k []) (eqb-true q p e) ∙ row_own) ∙ five_same s
          by false e = ap row_same (row_same_lem q (eqb-false q p e)) ∙ each_row 16 (same_five h.seats) g.same q l

  module _ (fs : List Stretch) (a : apart fs ≡ true) (rows : (i : ℕ) → how_many i fs + one (holds i s) ≡ how_many i (free_of h) + one (holds i (seat_of h.seats p))) where
    same_rows : (i : ℕ) → how_many i (fs ++ map (seat_of ss) (from 0 16)) ≡ how_many i (free_of h ++ seats_of h)
    same_rows i =
        let b = many_append i fs (map (seat_of ss) (from 0 16)) in
        let c = ap (how_many i) seats_set in
        let d = many_set i (seats_of h) p s (let z = seats_long h in omega (arith, z, pilot)) in
        let e = ap (λ (t : Stretch). one (holds i t)) (seat-at h.seats p pilot) in
        let f = many_append i (free_of h) (seats_of h) in
        let k = rows i in omega (arith, b, c, d, e, f, k)

    tiles_then : Tiles h.rows (fs ++ map (seat_of ss) (from 0 16))
    tiles_then = let t = tiling_of g in record { rows = λ i l. same_rows i ∙ t.rows i l; above = λ i l. same_rows i ∙ t.above i l }

    -- "free-few": there is a place for each
    pub few_then : length fs ≤ 17
    few_then =
        let z = free_few h.rows fs (map (seat_of ss) (from 0 16)) tiles_then a in
        let y = table-length (seat_of ss) 0 16 in omega (arith, z, y)

    table_long : length (tabled h.table h.count fs) ≡ length h.table
    table_long =
        let b = length-append fs (replicate (h.count - length fs) empty ++ drop (max h.count (length fs)) h.table) in
        let c = length-append (replicate (h.count - length fs) empty) (drop (max h.count (length fs)) h.table) in
        let d = empties (h.count - length fs) in
        let e = length-drop (max h.count (length fs)) h.table in
        let f = few_then in omega (arith, b, c, d, e, f, g.room, g.count)
      where
        empties : (k : ℕ) → length (replicate k empty) ≡ k
        empties zero = refl
        empties (suc k) = ap suc (empties k)

    free_then : free_of (with_seat h fs p s) ≡ fs
    free_then = by fs (replicate (h.count - length fs) empty ++ drop (max h.count (length fs)) h.table)
      where
        by : (x y : List Stretch) → take (length x) (x ++ y) ≡ x
        by [] y = refl
        by (t ∷ x) y = ap (λ (q : List Stretch). t ∷ q) (by x y)

    pub keeps : Good (with_seat h fs p s)
    keeps =
        record {
          room = (let z = table_long in omega (arith, z, g.room));
          count = (let z = table_long in let y = few_then in omega (arith, z, y, g.room));
          same = five_good;
          ordered = ap apart free_then ∙ a;
          tiling = ap (λ (q : List Stretch). tiled h.rows (q ++ map (seat_of ss) (from 0 16))) free_then ∙ tiled-by tiles_then;
        }

module _ (h : Hall) (g : Good h) (long : length h.seats ≡ 16) (p : ℕ) (pilot : p < 16) where
  module _ (out : (seat_of h.seats p).length ≡ 0) (w : ℕ) (c : Cut) (e : cut_first w (free_of h) ≡ some c) where
    cut_same : (i : ℕ) → how_many i c.rest + one (holds i (record { start = c.start; length = w })) ≡ how_many i (free_of h) + one (holds i (seat_of h.seats p))
    cut_same i = let z = (cut_rows w (free_of h) c e).rows i in let y = none_held i (seat_of h.seats p) out in omega (arith, z, y)

    pub cut_keeps : Good (with_seat h c.rest p (record { start = c.start; length = w }))
    cut_keeps = keeps h g long p pilot (record { start = c.start; length = w }) c.rest (cut_apart w (free_of h) c e g.ordered).rest cut_same

  module _ (is_in_lem : 0 < (seat_of h.seats p).length) where
    freed-apart : apart (freed (seat_of h.seats p) (free_of h)) ≡ true
    freed-apart = leaver-apart (seat_of h.seats p) is_in_lem (free_of h) g.ordered (seat_clear g p pilot)

    pub freed_rows : (i : ℕ) → how_many i (freed (seat_of h.seats p) (free_of h)) ≡ one (holds i (seat_of h.seats p)) + how_many i (free_of h)
    freed_rows i = joined_rows i (in_order (seat_of h.seats p) (free_of h)) ∙ in_order_rows i (seat_of h.seats p) (free_of h)

    freed_same : (i : ℕ) → how_many i (freed (seat_of h.seats p) (free_of h)) + one (holds i empty) ≡ how_many i (free_of h) + one (holds i (seat_of h.seats p))
    freed_same i = let z = freed_rows i in let y = none_held i empty refl in omega (arith, z, y)

    pub freed_few : length (freed (seat_of h.seats p) (free_of h)) ≤ 17
    freed_few = few_then h g long p pilot empty (freed (seat_of h.seats p) (free_of h)) freed-apart freed_same

    pub freed_keeps : Good (with_seat h (freed (seat_of h.seats p) (free_of h)) p empty)
    freed_keeps = keeps h g long p pilot empty (freed (seat_of h.seats p) (free_of h)) freed-apart freed_same
