-- "It accepts exactly the tables that 01's sheet section allows": the verdict on tables is the reader's verdict on their sheet, or their file.
use Prim.Native.Nat.{ℕ, suc, ◌+◌, ◌≤◌, ◌<◌}
use native.Mathlib.Omega.{arith}
use mathlib.Core.Path.{◌≡◌, refl, sym, ap, ◌∙◌}
use mathlib.Core.Bool.{Bool, true, false, ◌&&◌}
use mathlib.Core.List.{List, [], ◌++◌}
use mathlib.Core.Option.{Option, none, some, some-ne-none}
use lib.ListN.{length, get_or}
use lib.Dec.{leb, eqb}
use borrow.Author.Tests.{le-leb, leb-true, eq-eqb}
use Rattle.laws.specs.Lists.{every?, from}
use Rattle.laws.proofs.Bools.{and_left, and_right}
use Rattle.laws.proofs.Every.{every_at}
use Rattle.rules.specs.Bytes.{u32_at, pairs_of, limit_of}
use Rattle.rules.specs.Sheet.{book_of, fit_of}
use Rattle.rules.specs.Shape.{end_of, placed, header_good, book_bad, fit_bad, bad_shape}
use Rattle.rules.specs.Files.{five_pairs, pairs_in, standing, book_header_good, fit_header_good, bad_book, bad_fit, bad_files, plus20}
use Rattle.tables.specs.Tables.{Tables, number, counts_of, book_alike, fit_alike, counted, book_fits, fit_fits, header_fits, tables_bad, book_tables_bad, fit_tables_bad, book_lent, fit_lent, sheet_of, book_file_of, fit_file_of}
use Rattle.tables.specs.Fits.{Fits32, FewBook, FewFit}
use Rattle.tables.proofs.ReadsBack.{pairs, sheet_size, book_size, fit_size, word_at, pairs_are, book_reads_back, fit_reads_back, book_pairs, book_pairs_are, book_file_reads_back, fit_pairs, fit_word_at, fit_pairs_are, fit_file_reads_back}

eqb_same : (n : ℕ) → eqb n n ≡ true
eqb_same n = eq-eqb n n refl

count_at : (t : Tables) (a n : ℕ) → counted t a n ≡ true → (i : ℕ) → i < length (from a n) → get_or (counts_of t) (get_or (from a n) i 0) 0 ≤ limit_of (suc (get_or (from a n) i 0))
count_at t a n h i l = leb-true _ _ (every_at (λ i. leb (get_or (counts_of t) i 0) (limit_of (suc i))) (from a n) i 0 h l)

-- a header that fits has as many records as 01 allows, and columns that are alike
pub few_book : (t : Tables) → book_fits t ≡ true → FewBook t
unfolding book_fits
few_book t h =
    record {
      attributes = count_at t 0 5 counts 0 (omega arith);
      effects = count_at t 0 5 counts 1 (omega arith);
      modifiers = count_at t 0 5 counts 2 (omega arith);
      type_effects = count_at t 0 5 counts 3 (omega arith);
      buff_collections = count_at t 0 5 counts 4 (omega arith);
    }
  where
    counts : counted t 0 5 ≡ true
    counts = and_right (book_alike t) (counted t 0 5) h

pub like_book : (t : Tables) → book_fits t ≡ true → book_alike t ≡ true
unfolding book_fits
like_book t h = and_left (book_alike t) (counted t 0 5) h

-- the columns and counts of a fit that fits
counts-first : (t : Tables) → fit_fits t ≡ true → fit_alike t && counted t 5 5 ≡ true
unfolding fit_fits
counts-first t h = and_left _ (leb 1 (number t.header 3)) (and_left _ (leb (number t.header 3) 256) (and_left _ (leb (number t.header 4) 1) h))

pub few_fit : (t : Tables) → fit_fits t ≡ true → FewFit t
few_fit t h =
    record {
      objects = count_at t 5 5 counts 0 (omega arith);
      base_attributes = count_at t 5 5 counts 1 (omega arith);
      ids = count_at t 5 5 counts 2 (omega arith);
      buffs = count_at t 5 5 counts 3 (omega arith);
      asks = count_at t 5 5 counts 4 (omega arith);
    }
  where
    counts : counted t 5 5 ≡ true
    counts = and_right (fit_alike t) (counted t 5 5) (counts-first t h)

pub like_fit : (t : Tables) → fit_fits t ≡ true → fit_alike t ≡ true
like_fit t h = and_left (fit_alike t) (counted t 5 5) (counts-first t h)

-- the verdict from the header's, the book's and the fit's
unfoldable pub decided : Bool → Option ℕ → Option ℕ → Option ℕ
decided h o f = elim h [ false ↦ some 0 | true ↦ elim o [ some i ↦ some i | none ↦ f ] ]

pub decided_none : (h : Bool) (o f : Option ℕ) → decided h o f ≡ none → (h ≡ true) × ((o ≡ none) × (f ≡ none))
unfolding decided
decided_none false o f e = absurd (some-ne-none 0 e)
decided_none true (some i) f e = absurd (some-ne-none i e)
decided_none true none f e = (refl, (refl, e))

abbrev headed : Bool → Option ℕ → Option ℕ
headed h o = elim h [ false ↦ some 0 | true ↦ o ]

pub headed_both : (h : Bool) (o : Option ℕ) → headed h o ≡ none → (h ≡ true) × (o ≡ none)
headed_both false o e = absurd (some-ne-none 0 e)
headed_both true o e = (refl, e)

pub plus20_none : (o : Option ℕ) → plus20 o ≡ none → o ≡ none
plus20_none none e = refl
plus20_none (some i) e = absurd (some-ne-none (i + 20) e)

pub header-fits : (t : Tables) → tables_bad t ≡ none → header_fits t ≡ true
unfolding tables_bad decided
header-fits t e = (decided_none (header_fits t) (book_bad (book_lent t)) (fit_bad (fit_lent t)) e).0

-- ---- a book's file, beside any fit

module _ (t : Tables) (few : FewBook t) where
  book_counts : counted t 0 5 ≡ true
  book_counts = rw (le-leb (length t.attributes) 2048 few.attributes, le-leb (length t.effects) 1024 few.effects, le-leb (length t.modifiers) 4096 few.modifiers, le-leb (length t.type_effects) 4096 few.type_effects, le-leb (length t.buff_collections) 64 few.buff_collections) refl

  module _ (like : book_alike t ≡ true) where
    book_fits_lem : book_fits t ≡ true
    unfolding book_fits
    book_fits_lem = rw (like, book_counts) refl

    module _ (g : Fits32 t) where
      book_stands : (f : List ℕ) → standing (book_pairs t g few ++ five_pairs f) 52 (from 1 5) (length (book_file_of t)) ≡ true
      unfolding standing
      book_stands f = rw (book_size t, le-leb (length t.attributes) 2048 few.attributes, le-leb (length t.effects) 1024 few.effects, le-leb (length t.modifiers) 4096 few.modifiers, le-leb (length t.type_effects) 4096 few.type_effects, le-leb (length t.buff_collections) 64 few.buff_collections, eqb_same, eqb_same, eqb_same, eqb_same, eqb_same) refl

      book_header : book_header_good (book_file_of t) (pairs_in (book_file_of t) []) ≡ true
      unfolding book_header_good
      book_header =
          ap (λ (p : List (List ℕ)). leb 52 (length (book_file_of t)) && standing (p ++ five_pairs []) 52 (from 1 5) (length (book_file_of t))) (book_pairs_are t g few)
          ∙ rw (le-leb 52 (length (book_file_of t)) (omega (arith, book_size t)), book_stands []) refl

      pub same_book_verdict : bad_book (book_file_of t) ≡ book_tables_bad t
      unfolding bad_book book_tables_bad
      same_book_verdict =
          ap (λ (h : Bool). headed h (book_bad (book_of (book_file_of t) (pairs_in (book_file_of t) [])))) (book_header ∙ sym book_fits_lem)
          ∙ ap (λ (o : Option ℕ). headed (book_fits t) o) (ap book_bad (book_file_reads_back t g few []))

-- ---- a fit's file, beside any book

module _ (t : Tables) (few : FewFit t) where
  fit_counts : counted t 5 5 ≡ true
  fit_counts = rw (le-leb (length t.objects) 1024 few.objects, le-leb (length t.base_attributes) 16384 few.base_attributes, le-leb (length t.ids) 4096 few.ids, le-leb (length t.buffs) 64 few.buffs, le-leb (length t.asks) 1024 few.asks) refl

  module _ (like : fit_alike t ≡ true) (g : Fits32 t) (k : List ℕ) where
    fit_stands : standing (five_pairs k ++ fit_pairs t g few) 48 (from 6 5) (length (fit_file_of t)) ≡ true
    unfolding standing
    fit_stands = rw (fit_size t, le-leb (length t.objects) 1024 few.objects, le-leb (length t.base_attributes) 16384 few.base_attributes, le-leb (length t.ids) 4096 few.ids, le-leb (length t.buffs) 64 few.buffs, le-leb (length t.asks) 1024 few.asks, eqb_same, eqb_same, eqb_same, eqb_same, eqb_same) refl

    fit_header : fit_header_good (fit_file_of t) (pairs_in k (fit_file_of t)) ≡ fit_fits t
    unfolding fit_header_good fit_fits
    fit_header =
        ap (λ (p : List (List ℕ)). leb 48 (length (fit_file_of t)) && standing (five_pairs k ++ p) 48 (from 6 5) (length (fit_file_of t)) && leb 1 (u32_at (fit_file_of t) 40) && leb (u32_at (fit_file_of t) 40) 256 && leb (u32_at (fit_file_of t) 44) 1) (fit_pairs_are t g few)
        ∙ rw (le-leb 48 (length (fit_file_of t)) (omega (arith, fit_size t)), fit_stands, like, fit_counts) (rw (fit_word_at t g few 10 (omega arith), fit_word_at t g few 11 (omega arith)) refl)

    pub same_fit_verdict : plus20 (bad_fit (fit_file_of t) (pairs_in k (fit_file_of t))) ≡ fit_tables_bad t
    unfolding bad_fit fit_tables_bad
    same_fit_verdict =
        ap plus20
        (ap (λ (h : Bool). headed h (fit_bad (fit_of (fit_file_of t) (pairs_in k (fit_file_of t))))) fit_header
        ∙ ap (λ (o : Option ℕ). headed (fit_fits t) o) (ap fit_bad (fit_file_reads_back t g few k)))

-- what the verdicts on the book's tables and the fit's let through are two files
pub sound_files : (t u : Tables) → Fits32 t → Fits32 u → book_tables_bad t ≡ none → fit_tables_bad u ≡ none → bad_files (book_file_of t) (fit_file_of u) ≡ none
unfolding bad_files book_tables_bad fit_tables_bad
sound_files t u g h e f =
    let b : book_fits t ≡ true = (headed_both (book_fits t) (book_bad (book_lent t)) e).0 in
    let i : fit_fits u ≡ true = (headed_both (fit_fits u) (fit_bad (fit_lent u)) (plus20_none (headed (fit_fits u) (fit_bad (fit_lent u))) f)).0 in
    ap (λ (o : Option ℕ). elim o as (λ o. Option ℕ) [ some i ↦ some i | none ↦ plus20 (bad_fit (fit_file_of u) (pairs_in (book_file_of t) (fit_file_of u))) ])
    (same_book_verdict t (few_book t b) (like_book t b) g ∙ e)
    ∙ (same_fit_verdict u (few_fit u i) (like_fit u i) h (book_file_of t) ∙ f)

-- ---- the sheet

module _ (t : Tables) (g : Fits32 t) (fewB : FewBook t) (fewF : FewFit t) (likeB : book_alike t ≡ true) (likeF : fit_alike t ≡ true) where
  good_places : every? (placed (pairs t g fewB fewF)) (from 0 10) ≡ true
  good_places = rw (le-leb (length t.attributes) 2048 fewB.attributes, le-leb (length t.effects) 1024 fewB.effects, le-leb (length t.modifiers) 4096 fewB.modifiers, le-leb (length t.type_effects) 4096 fewB.type_effects, le-leb (length t.buff_collections) 64 fewB.buff_collections, le-leb (length t.objects) 1024 fewF.objects, le-leb (length t.base_attributes) 16384 fewF.base_attributes, le-leb (length t.ids) 4096 fewF.ids, le-leb (length t.buffs) 64 fewF.buffs, le-leb (length t.asks) 1024 fewF.asks, eqb_same, eqb_same, eqb_same, eqb_same, eqb_same, eqb_same, eqb_same, eqb_same, eqb_same) refl

  long : length (sheet_of t) ≡ end_of (pairs t g fewB fewF) 10
  long = sheet_size t

  long_enough : leb 100 (length (sheet_of t)) ≡ true
  long_enough = le-leb 100 (length (sheet_of t)) (omega (arith, sheet_size t))

  header_same : header_good (sheet_of t) (pairs t g fewB fewF) ≡ header_fits t
  unfolding header_good book_fits fit_fits
  header_same =
      rw (long_enough, good_places, book_counts t fewB, fit_counts t fewF, likeB, likeF, long, eqb_same)
      (rw (word_at t g fewB fewF 23 (omega arith), word_at t g fewB fewF 24 (omega arith)) refl)

  pub same_verdict : bad_shape (sheet_of t) ≡ tables_bad t
  unfolding bad_shape tables_bad decided
  same_verdict =
      ap (λ (h : Bool). decided h (book_bad (book_of (sheet_of t) (pairs_of (sheet_of t)))) (fit_bad (fit_of (sheet_of t) (pairs_of (sheet_of t)))))
      (ap (header_good (sheet_of t)) (pairs_are t g fewB fewF) ∙ header_same)
      ∙ ap (λ (o : Option ℕ). decided (header_fits t) o (fit_bad (fit_of (sheet_of t) (pairs_of (sheet_of t))))) (ap book_bad (book_reads_back t g fewB fewF))
      ∙ ap (decided (header_fits t) (book_bad (book_lent t))) (ap fit_bad (fit_reads_back t g fewB fewF))

  -- no offset wraps
  pub size_most : length (sheet_of t) ≤ 530276
  size_most = rw long (omega (arith, fewB.attributes, fewB.effects, fewB.modifiers, fewB.type_effects, fewB.buff_collections, fewF.objects, fewF.base_attributes, fewF.ids, fewF.buffs, fewF.asks))

-- what the tables' own verdict lets through is a sheet
pub sound : (t : Tables) → Fits32 t → tables_bad t ≡ none → bad_shape (sheet_of t) ≡ none
sound t g e =
    let b : book_fits t ≡ true = and_left (book_fits t) (fit_fits t) (header-fits t e) in
    let f : fit_fits t ≡ true = and_right (book_fits t) (fit_fits t) (header-fits t e) in
    same_verdict t g (few_book t b) (few_fit t f) (like_book t b) (like_fit t f) ∙ e
