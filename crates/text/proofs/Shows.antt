-- What comes back of a call is what the listing shows: the columns begin with the rows and the values of what is done.
use Prim.Native.Nat.{ℕ, zero, suc, ◌+◌, ◌-◌, ◌≤◌, ◌<◌}
use native.Mathlib.Nat.{not-suc-le-zero, le_of_suc-le-suc}
use native.Mathlib.Omega.{arith}
use mathlib.Core.Path.{◌≡◌, refl, sym, ap, subst, ◌∙◌}
use mathlib.Core.Bool.{cond}
use mathlib.Core.List.{List, [], ◌∷◌, map}
use mathlib.Core.Option
use mathlib.Core.Option.{Option, none, some}
use lib.Dec.{leb}
use lib.Ieee.{Float}
use lib.ListN.{length, get_or, replicate, length-append, length-map, length-replicate}
use mir.Syntax.{w32}
use mir.Val.{SFits, to_z}
use mir.Facts.{to_z-of_z}
use Rattle.laws.specs.Columns.{column}
use Rattle.laws.specs.Floats.{zero_f}
use Rattle.laws.proofs.Laid.{column_row}
use Rattle.laws.proofs.Maps.{same_default}
use Rattle.rules.specs.Answer.{Res, ok, refused}
use Rattle.rules.specs.Bytes.{bits, pairs_of}
use Rattle.rules.specs.Collect.{moves}
use Rattle.rules.specs.Columns.{rows_numbers, row_list, value_list, sources_by_row, row_column, value_column}
use Rattle.rules.specs.Dispatch.{Row, base_keys, hit_keys, full_at}
use Rattle.rules.specs.Outcome.{Lent, Rooms, Done, full, collected, starts_of, valued, collected_in, rows_in, world_of, blank, rooms_of, run, outcome}
use Rattle.rules.specs.Shape.{bad_shape}
use Rattle.rules.specs.Sheet.{Book, Fit, book_of, fit_of}
use Rattle.rules.specs.Value.{World}
use Rattle.rules.specs.declared.Refusal.TheVariants as refusal
use Rattle.rules.specs.declared.Source.{Source}
use Rattle.shape.proofs.Shapes.{sound_book, sound_fit}
use Rattle.shape.specs.Shaped.{shaped_of}
use Rattle.reading.specs.Held.{no_row}
use Rattle.values.proofs.Sheets.{sound_rows}
use Rattle.values.proofs.Starts.{valued_grows}
use Rattle.promises.specs.Result.{Result, Meets}
use Rattle.rules.proofs.Results.{got, then}
use Rattle.promises.proofs.Ends.{numbers_length}
use Rattle.listing.specs.Pieces.{Shown}

-- ---- columns

-- row i of list 2
object-at : (e s : ℕ) (rs : List Row) (qs : List (List Source)) (i : ℕ) (r : Row) → i < length rs → get_or (get_or (rows_numbers e s rs qs) i []) 0 0 ≡ (get_or rs i r).object
object-at e s [] qs i r h = absurd (not-suc-le-zero h)
object-at e s (x ∷ rs) [] zero r h = refl
object-at e s (x ∷ rs) [] (suc i) r h = object-at (e + length x.entries) s rs [] i r (le_of_suc-le-suc h)
object-at e s (x ∷ rs) (q ∷ qs) zero r h = refl
object-at e s (x ∷ rs) (q ∷ qs) (suc i) r h = object-at (e + length x.entries) (s + length q) rs qs i r (le_of_suc-le-suc h)

id-at : (e s : ℕ) (rs : List Row) (qs : List (List Source)) (i : ℕ) (r : Row) → i < length rs → get_or (get_or (rows_numbers e s rs qs) i []) 1 0 ≡ bits (get_or rs i r).id
id-at e s [] qs i r h = absurd (not-suc-le-zero h)
id-at e s (x ∷ rs) [] zero r h = refl
id-at e s (x ∷ rs) [] (suc i) r h = id-at (e + length x.entries) s rs [] i r (le_of_suc-le-suc h)
id-at e s (x ∷ rs) (q ∷ qs) zero r h = refl
id-at e s (x ∷ rs) (q ∷ qs) (suc i) r h = id-at (e + length x.entries) (s + length q) rs qs i r (le_of_suc-le-suc h)

-- a column of the length that was lent has room for its rows
has_room : {A B : Type 0} (enc : A → B) (z : B) (xs : List A) (n : ℕ) → length (column enc z xs n) ≡ n → length xs ≤ n
unfolding column
has_room enc z xs n e =
    let a = length-append (map enc xs) (replicate (n - length xs) z) in
    let b = length-map xs enc in
    let c = length-replicate (n - length xs) z in
    omega (arith, a, b, c, e)

-- ---- a run that is done

module _ (k : Book) (f : Fit) (q : Rooms) (d : Done) (e : run k f q ≡ ok d) where
  abbrev world : World
  world = world_of k f q.sources

  record Ran : Type 0 where
    long : length d.values ≡ length world.rows
    rows : d.rows ≡ world.rows

  ran : Ran
  unfolding run
  ran =
      let base = length (base_keys f) in
      let a = then (full (cond (leb base q.rows) none (some 2))) _ d e in
      let b = then (collected q 0 0 (moves k f)) _ d a.rest in
      let c = then (full (full_at q.rows q.entries (base_keys f) base 0 (hit_keys k f (collected_in k f)))) _ d b.rest in
      let m = then (valued world f.depth (starts_of f world.rows) (blank world.rows)) _ d c.rest in
      record {
        long =
            ap (λ (x : Done). length x.values) (sym (got m.rest))
            ∙ (valued_grows world f.depth (starts_of f world.rows) (blank world.rows) m.given m.first).values
            ∙ length-map world.rows (λ r. none);
        rows = sym (ap (λ (x : Done). x.rows) (got m.rest));
      }

  run_rows : d.rows ≡ rows_in k f
  unfolding world_of
  run_rows = ran.rows

  run-valued : length d.values ≡ length d.rows
  run-valued = ran.long ∙ sym (ap length ran.rows)

-- ---- any bytes

module _ (b : List ℕ) (l : Lent) (d : Done) (h : outcome b l ≡ ok d) where
  abbrev book : Book
  book = book_of b (pairs_of b)

  abbrev fit : Fit
  fit = fit_of b (pairs_of b)

  no_table_bad : bad_shape b ≡ none
  unfolding outcome
  no_table_bad = by (bad_shape b) h
    where
      by : (t : Option ℕ) → (elim t [ some n ↦ refused (refusal.Shape n) | none ↦ run book fit (rooms_of l) ]) ≡ ok d → t ≡ none
      by none e = refl
      by (some n) e = let z : ◌≡◌ {A = ℕ} 0 1 = cc in absurd (omega arith)

  is-run : run book fit (rooms_of l) ≡ ok d
  unfolding outcome
  is-run = by (bad_shape b) h
    where
      by : (t : Option ℕ) → (elim t [ some n ↦ refused (refusal.Shape n) | none ↦ run book fit (rooms_of l) ]) ≡ ok d → run book fit (rooms_of l) ≡ ok d
      by none e = e
      by (some n) e = let z : ◌≡◌ {A = ℕ} 0 1 = cc in absurd (omega arith)

  as_many : length (value_list (ok d)) ≡ length d.rows
  as_many = length-map d.values (λ v. Option.get_or v zero_f) ∙ run-valued book fit (rooms_of l) d is-run

  narrow : (i : ℕ) → i < length d.rows → SFits w32 (get_or d.rows i no_row).id
  narrow i lt =
      let s = sym (ap shaped_of no_table_bad) in
      subst (λ (rs : List Row). (i : ℕ) → i < length rs → SFits w32 (get_or rs i no_row).id) (sym (run_rows book fit (rooms_of l) d is-run))
      (sound_rows b b (pairs_of b) (sound_book b s) (sound_fit b s)).narrow i lt

-- ---- what comes back

module _ (b : List ℕ) (l : Lent) (r : Result) (m : Meets b l r) (rows-even : length r.rows ≡ l.rows) (values-even : length r.values ≡ l.values) where
  counted : r.counts.rows ≡ length (row_list (outcome b l))
  counted = ap (λ c. c.rows) m.by-counts

  -- the rows counted lie inside their column
  pub rows_inside : r.counts.rows ≤ length r.rows
  unfolding row_column
  rows_inside =
      let o = outcome b l in
      let e : length (column (λ x. x) (replicate 6 0) (rows_numbers 0 0 (row_list o) (sources_by_row o)) l.rows) ≡ l.rows = sym (ap length m.by_rows) ∙ rows-even in
      omega (arith, counted, rows-even, numbers_length 0 0 (row_list o) (sources_by_row o), has_room (λ x. x) (replicate 6 0) (rows_numbers 0 0 (row_list o) (sources_by_row o)) l.rows e)

  -- and inside that of their values
  pub values_inside : r.counts.rows ≤ length r.values
  unfolding value_column
  values_inside = by (outcome b l) refl
    where
      by : (o : Res Done) → outcome b l ≡ o → r.counts.rows ≤ length r.values
      by (refused x) e = omega (arith, counted, ap (λ q. length (row_list q)) e)
      by (ok d) e =
          let v : length (column (λ x. x) zero_f (value_list (ok d)) l.values) ≡ l.values = ap (λ q. length (value_column q l.values)) (sym e) ∙ sym (ap length m.by_values) ∙ values-even in
          omega (arith, counted, ap (λ q. length (row_list q)) e, values-even, as_many b l d e, has_room (λ x. x) zero_f (value_list (ok d)) l.values v)

  module _ (d : Done) (h : outcome b l ≡ ok d) where
    here : r.counts.rows ≡ length d.rows
    here = counted ∙ ap (λ o. length (row_list o)) h

    rows_are : r.rows ≡ column (λ x. x) (replicate 6 0) (rows_numbers 0 0 d.rows d.sources) l.rows
    unfolding row_column
    rows_are = m.by_rows ∙ ap (λ o. row_column o l.rows) h

    values_are : r.values ≡ column (λ x. x) zero_f (value_list (ok d)) l.values
    unfolding value_column
    values_are = m.by_values ∙ ap (λ o. value_column o l.values) h

    numbers_at : (i : ℕ) → i < r.counts.rows → get_or r.rows i [] ≡ get_or (rows_numbers 0 0 d.rows d.sources) i []
    numbers_at i lt =
        ap (λ (c : List (List ℕ)). get_or c i []) rows_are
        ∙ column_row (λ x. x) (replicate 6 0) (rows_numbers 0 0 d.rows d.sources) l.rows i [] [] (omega (arith, lt, here, numbers_length 0 0 d.rows d.sources))

    pub shown : Shown d r.counts.rows r.rows r.values
    shown =
        record {
          count = here;
          valued = here ∙ sym (as_many b l d h);
          object = λ i x lt. sym (ap (λ (c : List ℕ). get_or c 0 0) (numbers_at i lt) ∙ object-at 0 0 d.rows d.sources i x (omega (arith, lt, here)));
          id = λ i x lt. id_of i x lt;
          value = λ i v lt. sym (ap (λ (c : List Float). get_or c i v) values_are ∙ column_row (λ x. x) zero_f (value_list (ok d)) l.values i v v (omega (arith, lt, here, as_many b l d h)));
        }
      where
        id_of : (i : ℕ) (x : Row) → i < r.counts.rows → (get_or d.rows i x).id ≡ to_z w32 (get_or (get_or r.rows i []) 1 0)
        id_of i x lt =
            let in_rows : i < length d.rows = omega (arith, lt, here) in
            let fits : SFits w32 (get_or d.rows i x).id = subst (λ (y : Row). SFits w32 y.id) (same_default d.rows i no_row x in_rows) (narrow b l d h i in_rows) in
            sym (ap (λ (c : List ℕ). to_z w32 (get_or c 1 0)) (numbers_at i lt) ∙ ap (to_z w32) (id-at 0 0 d.rows d.sources i x in_rows) ∙ to_z-of_z fits)
