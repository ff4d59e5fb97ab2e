-- Tables that 01 allows may be put down: few enough records, floats that have bits.
use Prim.Native.Nat.{ℕ, ◌+◌, ◌≤◌, ◌<◌}
use native.Mathlib.Omega.{arith}
use mathlib.Core.Path.{◌≡◌, refl}
use mathlib.Core.Bool.{true, ◌&&◌}
use mathlib.Core.List.{List, [], map}
use mathlib.Core.Option.{none}
use lib.ListN.{length}
use lib.Dec.{leb, eqb}
use borrow.Author.Tests.{eqb-true}
use Rattle.laws.specs.Floats.{finite}
use Rattle.laws.specs.Lists.{every?, ascends}
use Rattle.laws.proofs.Bools.{and_left, and_right}
use Rattle.rules.specs.Shape.{attributes_good, effects_good, type_effects_good, buff_collections_good, objects_good, object_good, bases_good, buffs_good, asks_good, book_bad, fit_bad}
use Rattle.rules.proofs.Verdicts.{attributes_good_lem, bases_good_lem, buffs_good_lem}
use Rattle.tables.specs.Fits.{FewFit}
use Rattle.tables.specs.Tables.{Tables, row, value, number, attribute_of, base_of, buff_of, book_lent, fit_lent, together, fit_alike, book_fits, fit_fits, header_fits, tables_bad, book_tables_bad, fit_tables_bad, sheet_of, book_file_of, fit_file_of, book_length, fit_length}
use Rattle.tables.specs.At.{book_in, fit_in}
use Rattle.tables.specs.declared.BookTables.{BookTables}
use Rattle.tables.specs.declared.FitTables.{FitTables}
use Rattle.tables.proofs.ReadsBack.{sheet_size, book_size, fit_size}
use Rattle.tables.proofs.SameVerdict.{decided, decided_none, few_book, like_book, few_fit, like_fit, headed_both, plus20_none}
use Rattle.tables.proofs.SameBytes.{every_read}
use Rattle.put_tables.specs.Ready.{BookReady, FitReady}

module _ (t : Tables) where
  book_ready : book_fits t ≡ true → book_bad (book_lent t) ≡ none → BookReady t
  unfolding attributes_good book_lent
  book_ready f g =
      let same : length t.attributes ≡ length t.defaults = eqb-true _ _ (like_book t f) in
      record {
        few = few_book t f;
        defaults = (
          same,
          λ k h.
              and_right (leb (number (row t.attributes k) 1) 3) _
              (every_read (λ r. leb r.flags 3 && finite r.default_value) (λ k. attribute_of (row t.attributes k) (value t.defaults k)) (length t.attributes) k
              (and_right (ascends (map (λ r. r.id) (book_lent t).attributes)) _ (attributes_good_lem (book_lent t) g)) (rw same h)),
        );
      }

  fit_ready : fit_alike t ≡ true → FewFit t → fit_bad (fit_lent t) ≡ none → FitReady t
  unfolding bases_good buffs_good fit_lent
  fit_ready a few g =
      let bases : length t.base_attributes ≡ length t.base_values = eqb-true _ _ (and_left (eqb (length t.base_attributes) (length t.base_values)) _ a) in
      let buffs : length t.buffs ≡ length t.buff_values = eqb-true _ _ (and_right (eqb (length t.base_attributes) (length t.base_values)) _ a) in
      record {
        few = few;
        bases = (
          bases,
          λ k h.
              every_read (λ r. finite r.value) (λ k. base_of (number t.base_attributes k) (value t.base_values k)) (length t.base_attributes) k
              (and_left (every? (λ r. finite r.value) (fit_lent t).bases) _ (bases_good_lem (fit_lent t) g)) (rw bases h),
        );
        buffs = (
          buffs,
          λ k h.
              every_read (λ r. finite r.value) (λ k. buff_of (number t.buffs k) (value t.buff_values k)) (length t.buffs) k
              (buffs_good_lem (fit_lent t) g) (rw buffs h),
        );
      }

-- ---- a sheet's tables, a book's, a fit's; the header is not read

module _ (h : List ℕ) (t u : Tables) (e : tables_bad (together h t u) ≡ none) where
  parts : (header_fits (together h t u) ≡ true) × ((book_bad (book_lent (together h t u)) ≡ none) × (fit_bad (fit_lent (together h t u)) ≡ none))
  unfolding tables_bad decided
  parts = decided_none (header_fits (together h t u)) (book_bad (book_lent (together h t u))) (fit_bad (fit_lent (together h t u))) e

  fit_part : fit_fits (together h t u) ≡ true
  fit_part = and_right (book_fits (together h t u)) (fit_fits (together h t u)) parts.0

  pub sheet_book_ready : BookReady t
  unfolding book_fits book_bad attributes_good effects_good type_effects_good buff_collections_good book_lent
  sheet_book_ready = book_ready t (and_left (book_fits (together h t u)) (fit_fits (together h t u)) parts.0) parts.1.0

  few_part : FewFit u
  few_part =
      let few : FewFit (together h t u) = few_fit (together h t u) fit_part in
      record { objects = few.objects; base_attributes = few.base_attributes; ids = few.ids; buffs = few.buffs; asks = few.asks }

  pub sheet_fit_ready : FitReady u
  unfolding fit_bad objects_good object_good bases_good buffs_good asks_good fit_lent
  sheet_fit_ready = fit_ready u (like_fit (together h t u) fit_part) few_part parts.1.1

  pub sheet_fits : {n k m : ℕ} → k ≡ book_length t → m ≡ fit_length u → 100 + k + m ≤ n → length (sheet_of (together h t u)) ≤ n
  sheet_fits p q g = omega (arith, p, q, g, sheet_size (together h t u))

  -- no sum wraps
  pub sheet_small : {k m : ℕ} → k ≡ book_length t → m ≡ fit_length u → 100 + k + m ≤ 530276
  sheet_small p q =
      let b = sheet_book_ready.few in
      let f = few_part in
      omega (arith, p, q, b.attributes, b.effects, b.modifiers, b.type_effects, b.buff_collections, f.objects, f.base_attributes, f.ids, f.buffs, f.asks)

  pub sheet_lacks : {n k m : ℕ} → k ≡ book_length t → m ≡ fit_length u → n < 100 + k + m → n < length (sheet_of (together h t u))
  sheet_lacks p q g = omega (arith, p, q, g, sheet_size (together h t u))

-- a book's verdict does not read its header
pub unheaded : (k : BookTables) (h : List ℕ) → book_tables_bad (book_in k []) ≡ book_tables_bad (book_in k h)
unfolding book_tables_bad book_fits book_bad attributes_good effects_good type_effects_good buff_collections_good book_lent
unheaded k h = refl

module _ (k : BookTables) (h : List ℕ) (e : book_tables_bad (book_in k h) ≡ none) where
  abbrev book : Tables
  book = book_in k h

  pub book_file_ready : BookReady (book_in k [])
  unfolding book_tables_bad book_fits book_bad attributes_good effects_good type_effects_good buff_collections_good book_lent
  book_file_ready =
      let both = headed_both (book_fits book) (book_bad (book_lent book)) e in
      book_ready (book_in k []) both.0 both.1

  pub book_fits_lem : {n k : ℕ} → k ≡ book_length book → 52 + k ≤ n → length (book_file_of book) ≤ n
  book_fits_lem p g = omega (arith, p, g, book_size book)

  pub book_small : {k : ℕ} → k ≡ book_length book → 52 + k ≤ 530276
  book_small p = let b = book_file_ready.few in omega (arith, p, b.attributes, b.effects, b.modifiers, b.type_effects, b.buff_collections)

  pub book_lacks : {n k : ℕ} → k ≡ book_length book → n < 52 + k → n < length (book_file_of book)
  book_lacks p g = omega (arith, p, g, book_size book)

module _ (f : FitTables) (h : List ℕ) (e : fit_tables_bad (fit_in f h) ≡ none) where
  abbrev fit : Tables
  fit = fit_in f h

  fit_both : (fit_fits fit ≡ true) × (fit_bad (fit_lent fit) ≡ none)
  unfolding fit_tables_bad
  fit_both = headed_both (fit_fits fit) (fit_bad (fit_lent fit)) (plus20_none _ e)

  few_file : FewFit (fit_in f [])
  few_file =
      let few : FewFit fit = few_fit fit fit_both.0 in
      record { objects = few.objects; base_attributes = few.base_attributes; ids = few.ids; buffs = few.buffs; asks = few.asks }

  pub fit_file_ready : FitReady (fit_in f [])
  unfolding fit_bad objects_good object_good bases_good buffs_good asks_good fit_lent
  fit_file_ready = fit_ready (fit_in f []) (like_fit fit fit_both.0) few_file fit_both.1

  pub fit_fits_lem : {n m : ℕ} → m ≡ fit_length fit → 48 + m ≤ n → length (fit_file_of fit) ≤ n
  fit_fits_lem s g = omega (arith, s, g, fit_size fit)

  pub fit_small : {m : ℕ} → m ≡ fit_length fit → 48 + m ≤ 530276
  fit_small s = let few = few_file in omega (arith, s, few.objects, few.base_attributes, few.ids, few.buffs, few.asks)

  pub fit_lacks : {n m : ℕ} → m ≡ fit_length fit → n < 48 + m → n < length (fit_file_of fit)
  fit_lacks s g = omega (arith, s, g, fit_size fit)
