-- From the verdicts on single tables to the book's, the fit's and the sheet's: a test of one table reads no other.
use Prim.Native.Nat.{ℕ, ◌+◌, ◌≤◌}
use mathlib.Core.Path.{◌≡◌, refl, sym, ap, ◌∙◌}
use mathlib.Core.Bool.{Bool, true, false, ◌&&◌}
use mathlib.Core.List.{List, [], ◌∷◌, map}
use mathlib.Core.Option.{Option, none, some}
use lib.ListN.{length}
use lib.Dec.{eqb, leb}
use lib.Ieee.{Float}
use borrow.Author.Tests.{eqb-true}
use Rattle.laws.specs.Floats.{finite, zero_f}
use Rattle.laws.specs.Lists.{every?, from}
use Rattle.laws.proofs.Bools.{and_left, and_right, and_true_right}
use Rattle.laws.proofs.Every.{every_map}
use Rattle.laws.proofs.From.{table_of}
use Rattle.rules.specs.declared.Item.{Item}
use Rattle.rules.specs.Sheet.{Fit}
use Rattle.rules.specs.Files.{plus20}
use Rattle.rules.specs.Shape.{attributes_good, effects_good, type_effects_good, buff_collections_good, objects_good, object_good, bases_good, buffs_good, asks_good, stand, book_bad, fit_bad}
use Rattle.shape.specs.Ranges.{range_ascends}
use Rattle.std.specs.Prelude.{Ok, Err, MatchResult}
use Rattle.std.specs.Result.{IsErrAnd}
use Rattle.shape.specs.Shaped.{Shaped, bad_table, shaped_of}
use Rattle.shape.specs.declared.BadTable.{BadTable}
use Rattle.shape.proofs.Shapes.{bad_said, sound_said, plus20_said}
use Rattle.tables.specs.Tables.{Tables, all, value, number, book_lent, fit_lent, fit_tables, together, fit_alike, book_fits, fit_fits, tables_bad, book_tables_bad, fit_tables_bad}
use Rattle.tables.proofs.SameVerdict.{decided, like_fit, few_fit}
use Rattle.lent.specs.Alone.{attributes_alone, effects_alone, type_effects_alone, buff_collections_alone, objects_alone, bases_alone, asks_alone}
use Rattle.lent.proofs.Nths.{bases_long, ids_long}

-- ---- a test reads its own tables

-- objects are tested by the counts of base attributes and ids
same_object : (f g : Fit) → length f.bases ≡ length g.bases → length f.ids ≡ length g.ids → (o : Item) → object_good f o ≡ object_good g o
unfolding object_good
same_object f g b i o = rw (b, i) refl

same_objects : (f g : Fit) → f.objects ≡ g.objects → length f.bases ≡ length g.bases → length f.ids ≡ length g.ids → objects_good f ≡ objects_good g
unfolding objects_good
same_objects f g o b i =
    ap (λ (l : List Item). stand (map (λ o. o.kind) l) && every? (object_good f) l) o
    ∙ ap (λ (t : Bool). stand (map (λ o. o.kind) g.objects) && t) (each g.objects)
  where
    each : (l : List Item) → every? (object_good f) l ≡ every? (object_good g) l
    each [] = refl
    each (x ∷ l) = ap (λ (t : Bool). t && every? (object_good f) l) (same_object f g b i x) ∙ ap (λ (t : Bool). object_good g x && t) (each l)

-- floats beside n records are the column
values_finite : {A : Type 0} (val : A → Float) (f : ℕ → A) (w : List Float) (n : ℕ) → n ≡ length w → every? (λ k. finite (val (f k))) (from 0 n) ≡ every? (λ k. finite (value w k)) (from 0 n)
    → every? (λ r. finite (val r)) (all f n) ≡ every? finite w
values_finite val f w n e s =
    every_map (λ r. finite (val r)) f (from 0 n)
    ∙ s
    ∙ ap (λ (m : ℕ). every? (λ k. finite (value w k)) (from 0 m)) e
    ∙ sym (every_map finite (value w) (from 0 (length w)))
    ∙ ap (every? finite) (table_of w zero_f)

module _ (t : Tables) where
  pub attributes_alone_lem : attributes_good (attributes_alone t.attributes t.defaults) ≡ attributes_good (book_lent t)
  unfolding attributes_good book_lent
  attributes_alone_lem = refl

  pub effects_alone_lem : effects_good (effects_alone t.effects t.modifiers) ≡ effects_good (book_lent t)
  unfolding effects_good book_lent
  effects_alone_lem = refl

  pub type_effects_alone_lem : type_effects_good (type_effects_alone t.type_effects) ≡ type_effects_good (book_lent t)
  unfolding type_effects_good book_lent
  type_effects_alone_lem = refl

  pub buff_collections_alone_lem : buff_collections_good (buff_collections_alone t.buff_collections t.modifiers) ≡ buff_collections_good (book_lent t)
  unfolding buff_collections_good book_lent
  buff_collections_alone_lem = refl

  objects_there : (objects_alone t.objects t.base_attributes t.ids).objects ≡ (fit_lent t).objects
  unfolding fit_lent
  objects_there = refl

  pub objects_alone_lem : objects_good (objects_alone t.objects t.base_attributes t.ids) ≡ objects_good (fit_lent t)
  objects_alone_lem =
      same_objects (objects_alone t.objects t.base_attributes t.ids) (fit_lent t) objects_there
      (bases_long (fit_tables [] t.objects t.base_attributes [] t.ids [] [] []) ∙ sym (bases_long t))
      (ids_long (fit_tables [] t.objects t.base_attributes [] t.ids [] [] []) ∙ sym (ids_long t))

  pub asks_alone_lem : asks_good (asks_alone t.asks t.objects) ≡ asks_good (fit_lent t)
  unfolding asks_good fit_lent
  asks_alone_lem = refl

  bases_finite : fit_alike t ≡ true → every? (λ r. finite r.value) (fit_lent t).bases ≡ every? finite t.base_values
  unfolding fit_lent
  bases_finite a =
      values_finite (λ r. r.value) _ t.base_values (length t.base_attributes)
      (eqb-true _ _ (and_left (eqb (length t.base_attributes) (length t.base_values)) _ a)) refl

  pub buffs_finite : fit_alike t ≡ true → buffs_good (fit_lent t) ≡ every? finite t.buff_values
  unfolding fit_lent buffs_good
  buffs_finite a =
      values_finite (λ r. r.value) _ t.buff_values (length t.buffs)
      (eqb-true _ _ (and_right (eqb (length t.base_attributes) (length t.base_values)) _ a)) refl

  bases_by : (let f = bases_alone t.objects t.base_attributes t.base_values in
      bases_good (fit_lent t) ≡ every? (λ r. finite r.value) (fit_lent t).bases && every? (range_ascends f) f.objects)
  unfolding bases_good fit_lent
  bases_by = refl

  -- table 7 by its two tests
  module _ (a : fit_alike t ≡ true) {p : Bool} (e : p ≡ every? finite t.base_values) where
    bases_first : every? (λ r. finite r.value) (fit_lent t).bases ≡ p
    bases_first = bases_finite a ∙ sym e

    pub bases_unfinite : p ≡ false → bases_good (fit_lent t) ≡ false
    bases_unfinite n = bases_by ∙ rw (bases_first ∙ n) refl

    pub bases_left : {q : Bool} → (let f = bases_alone t.objects t.base_attributes t.base_values in q ≡ every? (range_ascends f) f.objects) → p ≡ true
        → bases_good (fit_lent t) ≡ q
    bases_left h n = bases_by ∙ rw (bases_first ∙ n) (sym h)

-- ---- headers

pub book_fits_by : (a d e m y b : ℕ) → eqb a d && (leb a 2048 && (leb e 1024 && (leb m 4096 && (leb y 4096 && leb b 64)))) ≡ eqb a d && (leb a 2048 && (leb e 1024 && (leb m 4096 && (leb y 4096 && (leb b 64 && true)))))
book_fits_by a d e m y b = rw (and_true_right (leb b 64)) refl

-- a fit's header has two numbers, and no table's test reads them
pub fits_numbers : (t : Tables) → fit_fits (fit_tables (number t.header 3 ∷ number t.header 4 ∷ []) t.objects t.base_attributes t.base_values t.ids t.buffs t.buff_values t.asks) ≡ fit_fits t
unfolding fit_fits
fits_numbers t = refl

pub fits_whole : (h : List ℕ) (t u : Tables) → fit_fits (fit_tables (number h 3 ∷ number h 4 ∷ []) u.objects u.base_attributes u.base_values u.ids u.buffs u.buff_values u.asks) ≡ fit_fits (together h t u)
unfolding fit_fits
fits_whole h t u = refl

pub bad_numbers : (t : Tables) → shaped_of (fit_bad (fit_lent (fit_tables [] t.objects t.base_attributes t.base_values t.ids t.buffs t.buff_values t.asks))) ≡ shaped_of (fit_bad (fit_lent t))
unfolding fit_bad objects_good object_good bases_good buffs_good asks_good fit_lent
bad_numbers t = refl

-- ---- a book alone, a fit alone

abbrev headed : Bool → Option ℕ → Option ℕ
headed h o = elim h [ false ↦ some 0 | true ↦ o ]

module _ (t : Tables) where
  pub book_header_bad : {r : Bool} → r ≡ book_fits t → r ≡ false → Err (bad_table 0) ≡ shaped_of (book_tables_bad t)
  unfolding book_tables_bad
  book_header_bad {r} e n = sym (ap (λ (h : Bool). shaped_of (headed h (book_bad (book_lent t)))) (sym e ∙ n))

  pub book_judged : {r : Bool} {v : Shaped} → r ≡ book_fits t → r ≡ true → v ≡ shaped_of (book_bad (book_lent t)) → v ≡ shaped_of (book_tables_bad t)
  unfolding book_tables_bad
  book_judged {r} e n h = h ∙ sym (ap (λ (h : Bool). shaped_of (headed h (book_bad (book_lent t)))) (sym e ∙ n))

  pub fit_header_bad : {r : Bool} → r ≡ fit_fits t → r ≡ false → Err (bad_table 20) ≡ shaped_of (fit_tables_bad t)
  unfolding fit_tables_bad
  fit_header_bad {r} e n = sym (ap (λ (h : Bool). shaped_of (plus20 (headed h (fit_bad (fit_lent t))))) (sym e ∙ n))

  module _ {r : Bool} {v : Shaped} (e : r ≡ fit_fits t) (n : r ≡ true) (h : v ≡ shaped_of (fit_bad (fit_lent t))) where
    by-tables : fit_tables_bad t ≡ plus20 (fit_bad (fit_lent t))
    unfolding fit_tables_bad
    by-tables = ap (λ (h : Bool). plus20 (headed h (fit_bad (fit_lent t)))) (sym e ∙ n)

    -- the verdict w with 20 more
    pub fit_judged : {w : Shaped} (Q : BadTable → BadTable → Type 0) → ((e x : BadTable) → Q e x → x ≡ bad_table (e.table + 20))
        → MatchResult v (λ s. w ≡ Ok s) (λ e. IsErrAnd w (Q e)) → w ≡ shaped_of (fit_tables_bad t)
    fit_judged Q same m = plus20_said (fit_bad (fit_lent t)) h Q same m ∙ sym (ap shaped_of by-tables)

    pub fit_judged_bad : {i : ℕ} → v ≡ Err (bad_table i) → Err (bad_table (i + 20)) ≡ shaped_of (fit_tables_bad t)
    fit_judged_bad g = sym (ap shaped_of (by-tables ∙ ap plus20 (bad_said (fit_bad (fit_lent t)) (sym g ∙ h))))

    pub fit_judged_sound : v ≡ Ok tt → Ok tt ≡ shaped_of (fit_tables_bad t)
    fit_judged_sound g = sym (ap shaped_of (by-tables ∙ ap plus20 (sound_said (fit_bad (fit_lent t)) (sym g ∙ h))))

  -- a fit that fits has columns that are alike, and few objects
  pub fit_alike_lem : {r : Bool} → r ≡ fit_fits t → r ≡ true → fit_alike t ≡ true
  fit_alike_lem {r} e n = like_fit t (sym e ∙ n)

  pub fit_few : {r : Bool} → r ≡ fit_fits t → r ≡ true → length t.objects ≤ 1024
  fit_few {r} e n = (few_fit t (sym e ∙ n)).objects

-- ---- a sheet, by the verdicts on its book and its fit

module _ (h : List ℕ) (t u : Tables) where
  abbrev whole : Tables
  whole = together h t u

  book_same : book_bad (book_lent whole) ≡ book_bad (book_lent t)
  unfolding book_bad attributes_good effects_good type_effects_good buff_collections_good book_lent
  book_same = refl

  fit_same : fit_bad (fit_lent whole) ≡ fit_bad (fit_lent u)
  unfolding fit_bad objects_good object_good bases_good buffs_good asks_good fit_lent
  fit_same = refl

  fits_same : book_fits whole ≡ book_fits t
  unfolding book_fits
  fits_same = refl

  by_parts : {x y : Bool} {o : Option ℕ} → book_fits t ≡ x → fit_fits whole ≡ y → book_bad (book_lent t) ≡ o → tables_bad whole ≡ decided (x && y) o (fit_bad (fit_lent u))
  unfolding tables_bad decided
  by_parts {x} {y} {o} e f g =
      ap (λ (z : Bool). decided (z && fit_fits whole) (book_bad (book_lent whole)) (fit_bad (fit_lent whole))) (fits_same ∙ e)
      ∙ ap (λ (z : Bool). decided (x && z) (book_bad (book_lent whole)) (fit_bad (fit_lent whole))) f
      ∙ ap (λ (z : Option ℕ). decided (x && y) z (fit_bad (fit_lent whole))) (book_same ∙ g)
      ∙ ap (decided (x && y) o) fit_same

  pub sheet_book_header : {r : Bool} → r ≡ book_fits t → r ≡ false → Err (bad_table 0) ≡ shaped_of (tables_bad whole)
  unfolding decided
  sheet_book_header {r} e n = sym (ap shaped_of (by_parts {x = false} {y = fit_fits whole} (sym e ∙ n) refl refl))

  module _ {r : Bool} (e : r ≡ book_fits t) (n : r ≡ true) {q : Bool} (f : q ≡ fit_fits whole) where
    pub sheet_fit_header : q ≡ false → Err (bad_table 0) ≡ shaped_of (tables_bad whole)
    unfolding decided
    sheet_fit_header m = sym (ap shaped_of (by_parts {x = true} {y = false} (sym e ∙ n) (sym f ∙ m) refl))

    module _ (m : q ≡ true) {v : Shaped} (g : v ≡ shaped_of (book_bad (book_lent t))) where
      pub sheet_book_bad : {x : BadTable} → v ≡ Err x → Err x ≡ shaped_of (tables_bad whole)
      unfolding decided
      sheet_book_bad {x} k = sym (ap shaped_of (by_parts {x = true} {y = true} {o = some x.table} (sym e ∙ n) (sym f ∙ m) (bad_said (book_bad (book_lent t)) (sym k ∙ g))))

      pub sheet_fit_judged : {w : Shaped} → v ≡ Ok tt → w ≡ shaped_of (fit_bad (fit_lent u)) → w ≡ shaped_of (tables_bad whole)
      unfolding decided
      sheet_fit_judged k l = l ∙ sym (ap shaped_of (by_parts {x = true} {y = true} {o = none} (sym e ∙ n) (sym f ∙ m) (sound_said (book_bad (book_lent t)) (sym k ∙ g))))

  pub sheet_alike : {q : Bool} → q ≡ fit_fits whole → q ≡ true → fit_alike u ≡ true
  sheet_alike {q} f m = like_fit whole (sym f ∙ m)

  pub sheet_few : {q : Bool} → q ≡ fit_fits whole → q ≡ true → length u.objects ≤ 1024
  sheet_few {q} f m = (few_fit whole (sym f ∙ m)).objects
