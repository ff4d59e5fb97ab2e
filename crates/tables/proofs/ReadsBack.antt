-- "Its sheet reads back as the same tables": book and fit of a sheet that was written, and of two files.
use Prim.Native.Nat.{ℕ, ◌+◌, ◌*◌, ◌<◌}
use native.Mathlib.Omega.{arith}
use mathlib.Core.Path.{◌≡◌, refl, sym, ap, ◌∙◌}
use mathlib.Core.Bool.{true}
use mathlib.Core.List.{List, [], ◌∷◌, ◌++◌, map}
use lib.IntN.{ℤ}
use lib.ListN.{length, get_or, length-append}
use lib.Ieee.{Float, binary64, fits}
use borrow.Author.Tests.{ne_eqb}
use Rattle.laws.specs.Lists.{from}
use Rattle.laws.proofs.From.{table_of}
use Rattle.rules.specs.Bytes.{u32_at, signed, pairs_of, offset_of, categories_at, depth_at}
use Rattle.rules.specs.Sheet.{Book, Fit, book_of, fit_of, table, attribute_from, effect_from, modifier_from, type_effect_from, buff_collection_from, object_from, base_from, id_from, buff_from, ask_from}
use Rattle.rules.specs.Files.{five_pairs, pairs_in}
use Rattle.rules.specs.declared.DogmaAttribute.{DogmaAttribute}
use Rattle.rules.specs.declared.DogmaEffect.{DogmaEffect}
use Rattle.rules.specs.declared.DogmaModifier.{DogmaModifier}
use Rattle.rules.specs.declared.TypeDogmaEffect.{TypeDogmaEffect}
use Rattle.rules.specs.declared.DbuffCollection.{DbuffCollection}
use Rattle.rules.specs.declared.Item.{Item}
use Rattle.rules.specs.declared.BaseAttribute.{BaseAttribute}
use Rattle.rules.specs.declared.ProjectedBuff.{ProjectedBuff}
use Rattle.rules.specs.declared.Ask.{Ask}
use Rattle.tables.specs.Layout.{word, words, float, Words}
use Rattle.tables.specs.Tables.{Tables, Tab, row, value, number, all, fields, attribute_of, effect_of, modifier_of, type_effect_of, buff_collection_of, object_of, base_of, buff_of, ask_of, attribute_bytes, value_bytes, book_tabs, fit_tabs, pairs_from, body_of, book_lent, fit_lent, file, sheet_of, book_file_of, fit_file_of, attribute_tab, effect_tab, modifier_tab, type_effect_tab, buff_collection_tab, object_tab, base_tab, id_tab, buff_tab, ask_tab}
use Rattle.tables.specs.Fits.{Fits32, FewBook, FewFit}
use Rattle.tables.proofs.Numbers.{words-read, words-length, word-length, float-length}
use Rattle.tables.proofs.Located.{AllWide, Counted, start_of, pairs-words, body_length}
use Rattle.tables.proofs.Headers.{pairs-read}
use Rattle.tables.proofs.Standing.{Stands, table-read}
use Rattle.tables.proofs.Rows.{type_effect_read, attribute_read}
use Rattle.tables.proofs.Records.{effect_read, modifier_read, buff_collection_read, object-read, ask_read, id-read, base_read, buff_read}

-- ---- records of a row whose length is known

-- a row as long as its type says is its fields
pub fields-all : (r : List ℕ) (n : ℕ) → length r ≡ n → fields n r ≡ r
fields-all r n e = ap (λ (m : ℕ). fields m r) (sym e) ∙ table_of r 0

pub attribute_length : (r : List ℕ) (x : Float) → length (attribute_bytes r x) ≡ 24
unfolding word float
attribute_length r x = refl

attribute_back : (k : ℕ) (r : List ℕ) (x : Float) → length r ≡ 4 → Words r → fits binary64 x ≡ true → attribute_from k (attribute_bytes r x) ≡ attribute_of r x
attribute_back k [] x e w f = absurd (omega arith)
attribute_back k (a ∷ []) x e w f = absurd (omega arith)
attribute_back k (a ∷ b ∷ []) x e w f = absurd (omega arith)
attribute_back k (a ∷ b ∷ c ∷ []) x e w f = absurd (omega arith)
attribute_back k (a ∷ b ∷ c ∷ d ∷ []) x e w f = attribute_read k a b c d x w f
attribute_back k (a ∷ b ∷ c ∷ d ∷ e₁ ∷ r) x e w f = absurd (omega arith)

pub value-length : (n : ℕ) (x : Float) → length (value_bytes n x) ≡ 12
value-length n x = length-append (word n) (float x) ∙ ap (λ (m : ℕ). m + length (float x)) (word-length n) ∙ ap (λ (m : ℕ). 4 + m) (float-length x)

pub words_wide : (r : List ℕ) (n : ℕ) → length r ≡ n → length (words r) ≡ 4 * n
words_wide r n e = words-length r ∙ ap (λ (m : ℕ). 4 * m) e

-- ---- books and fits with the same parts

abbrev book : ℤ → ℤ → ℤ → List DogmaAttribute → List DogmaEffect → List DogmaModifier → List TypeDogmaEffect → List DbuffCollection → Book
book m s r a e d y b =
    record { modules = m; subsystems = s; structure_modules = r; attributes = a; effects = e; modifiers = d; type_effects = y; buff_collections = b }

book_same : {m m' s s' r r' : ℤ} {a a' : List DogmaAttribute} {e e' : List DogmaEffect} {d d' : List DogmaModifier} {y y' : List TypeDogmaEffect} {b b' : List DbuffCollection}
    → m ≡ m' → s ≡ s' → r ≡ r' → a ≡ a' → e ≡ e' → d ≡ d' → y ≡ y' → b ≡ b' → book m s r a e d y b ≡ book m' s' r' a' e' d' y' b'
book_same e1 e2 e3 e4 e5 e6 e7 e8 = rw (e1, e2, e3, e4, e5, e6, e7, e8) refl

abbrev fit : ℕ → ℕ → List Item → List BaseAttribute → List ℤ → List ProjectedBuff → List Ask → Fit
fit d r o b i u a = record { depth = d; recording = r; objects = o; bases = b; ids = i; buffs = u; asks = a }

fit_same : {d d' r r' : ℕ} {o o' : List Item} {b b' : List BaseAttribute} {i i' : List ℤ} {u u' : List ProjectedBuff} {a a' : List Ask}
    → d ≡ d' → r ≡ r' → o ≡ o' → b ≡ b' → i ≡ i' → u ≡ u' → a ≡ a' → fit d r o b i u a ≡ fit d' r' o' b' i' u' a'
fit_same e1 e2 e3 e4 e5 e6 e7 = rw (e1, e2, e3, e4, e5, e6, e7) refl

-- every record of every table has its table's width
pub book_wide : (t : Tables) (xs : List Tab) → AllWide xs → AllWide (book_tabs t ++ xs)
book_wide t xs w = (
  (λ k h. attribute_length (row t.attributes k) (value t.defaults k)),
  (
    (λ k h. words_wide (fields 6 (row t.effects k)) 6 refl),
    (
      (λ k h. words_wide (fields 7 (row t.modifiers k)) 7 refl),
      (
        (λ k h. words_wide (fields 3 (row t.type_effects k)) 3 refl),
        ((λ k h. words_wide (fields 4 (row t.buff_collections k)) 4 refl), w),
      ),
    ),
  ),
)

pub fit_wide : (t : Tables) → AllWide (fit_tabs t)
fit_wide t = (
  (λ k h. words_wide (fields 17 (row t.objects k)) 17 refl),
  (
    (λ k h. value-length (number t.base_attributes k) (value t.base_values k)),
    (
      (λ k h. word-length (number t.ids k)),
      (
        (λ k h. value-length (number t.buffs k) (value t.buff_values k)),
        ((λ k h. words_wide (fields 2 (row t.asks k)) 2 refl), tt),
      ),
    ),
  ),
)

-- how long tables with their pairs and m further numbers are
file_size : (at : ℕ) (xs : List Tab) (l : List ℕ) → AllWide xs → 4 * length (pairs_from at xs ++ l) ≡ at → length (file at xs l) ≡ start_of at xs (length xs)
file_size at xs l w e =
    length-append (words (pairs_from at xs ++ l)) (body_of xs)
    ∙ ap (λ (n : ℕ). n + length (body_of xs)) (words-length (pairs_from at xs ++ l) ∙ e)
    ∙ body_length xs at w

-- how long a sheet is, whatever its rows hold
pub sheet_size : (t : Tables)
    → length (sheet_of t) ≡ 100 + 24 * length t.attributes + 24 * length t.effects + 28 * length t.modifiers + 12 * length t.type_effects + 16 * length t.buff_collections + 68 * length t.objects + 12 * length t.base_attributes + 4 * length t.ids + 12 * length t.buffs + 8 * length t.asks
unfolding sheet_of
sheet_size t = file_size 100 (book_tabs t ++ fit_tabs t) (fields 5 t.header) (book_wide t (fit_tabs t) (fit_wide t)) refl

pub book_size : (t : Tables)
    → length (book_file_of t) ≡ 52 + 24 * length t.attributes + 24 * length t.effects + 28 * length t.modifiers + 12 * length t.type_effects + 16 * length t.buff_collections
unfolding book_file_of
book_size t = file_size 52 (book_tabs t) (fields 3 t.header) (book_wide t [] tt) refl

pub fit_size : (t : Tables)
    → length (fit_file_of t) ≡ 48 + 68 * length t.objects + 12 * length t.base_attributes + 4 * length t.ids + 12 * length t.buffs + 8 * length t.asks
unfolding fit_file_of
fit_size t = file_size 48 (fit_tabs t) (number t.header 3 ∷ number t.header 4 ∷ []) (fit_wide t) refl

-- ---- tables that stand somewhere are read back

module _ (t : Tables) (g : Fits32 t) {xs : List Tab} {p : List ℕ} {at : ℕ} {pairs : List (List ℕ)} where
  module _ {j : ℕ} where
    attributes_read : Stands xs p at pairs 1 j (attribute_tab t) → table attribute_from 1 (p ++ body_of xs) pairs ≡ all (λ k. attribute_of (row t.attributes k) (value t.defaults k)) (length t.attributes)
    attributes_read s =
        table-read s attribute_from (λ k. attribute_of (row t.attributes k) (value t.defaults k))
        (λ k h. attribute_back k (row t.attributes k) (value t.defaults k) (g.attributes k h).0 (g.attributes k h).1 (g.defaults k))

    effects_read : Stands xs p at pairs 2 j (effect_tab t) → table effect_from 2 (p ++ body_of xs) pairs ≡ all (λ k. effect_of k (row t.effects k)) (length t.effects)
    effects_read s =
        table-read s effect_from (λ k. effect_of k (row t.effects k))
        (λ k h. ap (λ (r : List ℕ). effect_from k (words r)) (fields-all (row t.effects k) 6 (g.effects k h).0) ∙ effect_read k (row t.effects k) (g.effects k h).0 (g.effects k h).1)

    modifiers_read : Stands xs p at pairs 3 j (modifier_tab t) → table modifier_from 3 (p ++ body_of xs) pairs ≡ all (λ k. modifier_of k (row t.modifiers k)) (length t.modifiers)
    modifiers_read s =
        table-read s modifier_from (λ k. modifier_of k (row t.modifiers k))
        (λ k h. ap (λ (r : List ℕ). modifier_from k (words r)) (fields-all (row t.modifiers k) 7 (g.modifiers k h).0) ∙ modifier_read k (row t.modifiers k) (g.modifiers k h).0 (g.modifiers k h).1)

    type_effects_read : Stands xs p at pairs 4 j (type_effect_tab t) → table type_effect_from 4 (p ++ body_of xs) pairs ≡ all (λ k. type_effect_of (row t.type_effects k)) (length t.type_effects)
    type_effects_read s =
        table-read s type_effect_from (λ k. type_effect_of (row t.type_effects k))
        (λ k h. ap (λ (r : List ℕ). type_effect_from k (words r)) (fields-all (row t.type_effects k) 3 (g.type_effects k h).0) ∙ type_effect_read k (row t.type_effects k) (g.type_effects k h).0 (g.type_effects k h).1)

    buff_collections_read : Stands xs p at pairs 5 j (buff_collection_tab t) → table buff_collection_from 5 (p ++ body_of xs) pairs ≡ all (λ k. buff_collection_of k (row t.buff_collections k)) (length t.buff_collections)
    buff_collections_read s =
        table-read s buff_collection_from (λ k. buff_collection_of k (row t.buff_collections k))
        (λ k h. ap (λ (r : List ℕ). buff_collection_from k (words r)) (fields-all (row t.buff_collections k) 4 (g.buff_collections k h).0) ∙ buff_collection_read k (row t.buff_collections k) (g.buff_collections k h).0 (g.buff_collections k h).1)

    objects_read : Stands xs p at pairs 6 j (object_tab t) → table object_from 6 (p ++ body_of xs) pairs ≡ all (λ k. object_of k (row t.objects k)) (length t.objects)
    objects_read s =
        table-read s object_from (λ k. object_of k (row t.objects k))
        (λ k h. ap (λ (r : List ℕ). object_from k (words r)) (fields-all (row t.objects k) 17 (g.objects k h).0) ∙ object-read k (row t.objects k) (g.objects k h).0 (g.objects k h).1)

    bases_read : Stands xs p at pairs 7 j (base_tab t) → table base_from 7 (p ++ body_of xs) pairs ≡ all (λ k. base_of (number t.base_attributes k) (value t.base_values k)) (length t.base_attributes)
    bases_read s =
        table-read s base_from (λ k. base_of (number t.base_attributes k) (value t.base_values k))
        (λ k h. base_read k (number t.base_attributes k) (g.base_attributes k) (value t.base_values k) (g.base_values k))

    ids_read : Stands xs p at pairs 8 j (id_tab t) → table id_from 8 (p ++ body_of xs) pairs ≡ all (λ k. signed (number t.ids k)) (length t.ids)
    ids_read s = table-read s id_from (λ k. signed (number t.ids k)) (λ k h. id-read k (number t.ids k) (g.ids k))

    buffs_read : Stands xs p at pairs 9 j (buff_tab t) → table buff_from 9 (p ++ body_of xs) pairs ≡ all (λ k. buff_of (number t.buffs k) (value t.buff_values k)) (length t.buffs)
    buffs_read s =
        table-read s buff_from (λ k. buff_of (number t.buffs k) (value t.buff_values k))
        (λ k h. buff_read k (number t.buffs k) (g.buffs k) (value t.buff_values k) (g.buff_values k))

    asks_read : Stands xs p at pairs 10 j (ask_tab t) → table ask_from 10 (p ++ body_of xs) pairs ≡ all (λ k. ask_of (row t.asks k)) (length t.asks)
    asks_read s =
        table-read s ask_from (λ k. ask_of (row t.asks k))
        (λ k h. ap (λ (r : List ℕ). ask_from k (words r)) (fields-all (row t.asks k) 2 (g.asks k h).0) ∙ ask_read k (row t.asks k) (g.asks k h).0 (g.asks k h).1)

  -- ---- the book and the fit

  pub book_read : {j1 j2 j3 j4 j5 : ℕ}
      → Stands xs p at pairs 1 j1 (attribute_tab t)
      → Stands xs p at pairs 2 j2 (effect_tab t)
      → Stands xs p at pairs 3 j3 (modifier_tab t)
      → Stands xs p at pairs 4 j4 (type_effect_tab t)
      → Stands xs p at pairs 5 j5 (buff_collection_tab t)
      → u32_at (p ++ body_of xs) (categories_at pairs) ≡ number t.header 0
      → u32_at (p ++ body_of xs) (categories_at pairs + 4) ≡ number t.header 1
      → u32_at (p ++ body_of xs) (categories_at pairs + 8) ≡ number t.header 2
      → book_of (p ++ body_of xs) pairs ≡ book_lent t
  unfolding book_of book_lent
  book_read s1 s2 s3 s4 s5 m s r =
      book_same (ap signed m) (ap signed s) (ap signed r) (attributes_read s1) (effects_read s2) (modifiers_read s3) (type_effects_read s4)
      (buff_collections_read s5)

  pub fit_read : {j1 j2 j3 j4 j5 : ℕ}
      → Stands xs p at pairs 6 j1 (object_tab t)
      → Stands xs p at pairs 7 j2 (base_tab t)
      → Stands xs p at pairs 8 j3 (id_tab t)
      → Stands xs p at pairs 9 j4 (buff_tab t)
      → Stands xs p at pairs 10 j5 (ask_tab t)
      → u32_at (p ++ body_of xs) (depth_at pairs) ≡ number t.header 3
      → u32_at (p ++ body_of xs) (depth_at pairs + 4) ≡ number t.header 4
      → fit_of (p ++ body_of xs) pairs ≡ fit_lent t
  unfolding fit_of fit_lent
  fit_read s1 s2 s3 s4 s5 d r = fit_same d r (objects_read s1) (bases_read s2) (ids_read s3) (buffs_read s4) (asks_read s5)

-- counts and offsets have 32 bits
few_counted : (t : Tables) (xs : List Tab) → FewBook t → Counted xs → Counted (book_tabs t ++ xs)
few_counted t xs few c =
    (omega (arith, few.attributes), (omega (arith, few.effects), (omega (arith, few.modifiers), (omega (arith, few.type_effects), (omega (arith, few.buff_collections), c)))))

fit_counted : (t : Tables) → FewFit t → Counted (fit_tabs t)
fit_counted t few =
    (omega (arith, few.objects), (omega (arith, few.base_attributes), (omega (arith, few.ids), (omega (arith, few.buffs), (omega (arith, few.asks), tt)))))

-- ---- the sheet

module _ (t : Tables) (g : Fits32 t) (fewB : FewBook t) (fewF : FewFit t) where
  abbrev pub tabs : List Tab
  tabs = book_tabs t ++ fit_tabs t

  abbrev pub numbers : List ℕ
  numbers = pairs_from 100 tabs ++ fields 5 t.header

  abbrev pub pairs : List (List ℕ)
  pairs = map (λ i. get_or numbers (2 * i) 0 ∷ get_or numbers (2 * i + 1) 0 ∷ []) (from 0 10)

  all_words : Words numbers
  all_words =
      pairs-words tabs 100 (fields 5 t.header) (few_counted t (fit_tabs t) fewB (fit_counted t fewF))
      (omega (arith, fewB.attributes, fewB.effects, fewB.modifiers, fewB.type_effects, fewB.buff_collections, fewF.objects, fewF.base_attributes, fewF.ids, fewF.buffs, fewF.asks))
      (g.header 0, (g.header 1, (g.header 2, (g.header 3, (g.header 4, tt)))))

  wide : AllWide tabs
  wide = book_wide t (fit_tabs t) (fit_wide t)

  front : length (words numbers) ≡ 100
  front = words-length numbers

  pub word_at : (j : ℕ) → j < 25 → u32_at (sheet_of t) (4 * j) ≡ get_or numbers j 0
  unfolding sheet_of
  word_at j h = words-read numbers (body_of tabs) j h all_words

  pub pairs_are : pairs_of (sheet_of t) ≡ pairs
  pairs_are = pairs-read (sheet_of t) numbers 10 (λ j h. word_at j (omega (arith, h)))

  pub depth_at_lem : depth_at pairs ≡ 92
  depth_at_lem = rw (ne_eqb (offset_of pairs 6) 48 (λ e. absurd (omega (arith, e)))) refl

  pub book_reads_back : book_of (sheet_of t) (pairs_of (sheet_of t)) ≡ book_lent t
  unfolding sheet_of
  book_reads_back =
      ap (book_of (sheet_of t)) pairs_are
      ∙ book_read t g {xs = tabs} {p = words numbers} {at = 100} {pairs = pairs} {j1 = 0} {j2 = 1} {j3 = 2} {j4 = 3} {j5 = 4} (record { wide = wide; front = front; tab = refl; count = refl; offset = refl; width = refl }) (record { wide = wide; front = front; tab = refl; count = refl; offset = refl; width = refl }) (record { wide = wide; front = front; tab = refl; count = refl; offset = refl; width = refl }) (record { wide = wide; front = front; tab = refl; count = refl; offset = refl; width = refl }) (record { wide = wide; front = front; tab = refl; count = refl; offset = refl; width = refl })
      (word_at 20 (omega arith)) (word_at 21 (omega arith)) (word_at 22 (omega arith))

  pub fit_reads_back : fit_of (sheet_of t) (pairs_of (sheet_of t)) ≡ fit_lent t
  unfolding sheet_of
  fit_reads_back =
      ap (fit_of (sheet_of t)) pairs_are
      ∙ fit_read t g {xs = tabs} {p = words numbers} {at = 100} {pairs = pairs} {j1 = 5} {j2 = 6} {j3 = 7} {j4 = 8} {j5 = 9} (record { wide = wide; front = front; tab = refl; count = refl; offset = refl; width = refl }) (record { wide = wide; front = front; tab = refl; count = refl; offset = refl; width = refl }) (record { wide = wide; front = front; tab = refl; count = refl; offset = refl; width = refl }) (record { wide = wide; front = front; tab = refl; count = refl; offset = refl; width = refl }) (record { wide = wide; front = front; tab = refl; count = refl; offset = refl; width = refl })
      (ap (u32_at (sheet_of t)) depth_at_lem ∙ word_at 23 (omega arith)) (ap (λ (i : ℕ). u32_at (sheet_of t) (i + 4)) depth_at_lem ∙ word_at 24 (omega arith))

-- ---- a book's file, beside any fit

module _ (t : Tables) (g : Fits32 t) (few : FewBook t) where
  abbrev pub book_numbers : List ℕ
  book_numbers = pairs_from 52 (book_tabs t) ++ fields 3 t.header

  abbrev pub book_pairs : List (List ℕ)
  book_pairs = map (λ i. get_or book_numbers (2 * i) 0 ∷ get_or book_numbers (2 * i + 1) 0 ∷ []) (from 0 5)

  book_words : Words book_numbers
  book_words =
      pairs-words (book_tabs t) 52 (fields 3 t.header) (few_counted t [] few tt)
      (omega (arith, few.attributes, few.effects, few.modifiers, few.type_effects, few.buff_collections))
      (g.header 0, (g.header 1, (g.header 2, tt)))

  book_front : length (words book_numbers) ≡ 52
  book_front = words-length book_numbers

  pub book_word_at : (j : ℕ) → j < 13 → u32_at (book_file_of t) (4 * j) ≡ get_or book_numbers j 0
  unfolding book_file_of
  book_word_at j h = words-read book_numbers (body_of (book_tabs t)) j h book_words

  pub book_pairs_are : five_pairs (book_file_of t) ≡ book_pairs
  book_pairs_are = pairs-read (book_file_of t) book_numbers 5 (λ j h. book_word_at j (omega (arith, h)))

  pub book_file_reads_back : (f : List ℕ) → book_of (book_file_of t) (pairs_in (book_file_of t) f) ≡ book_lent t
  unfolding book_file_of
  book_file_reads_back f =
      ap (λ (l : List (List ℕ)). book_of (book_file_of t) (l ++ five_pairs f)) book_pairs_are
      ∙ book_read t g {xs = book_tabs t} {p = words book_numbers} {at = 52} {pairs = book_pairs ++ five_pairs f} {j1 = 0} {j2 = 1} {j3 = 2} {j4 = 3} {j5 = 4} (record { wide = book_wide t [] tt; front = book_front; tab = refl; count = refl; offset = refl; width = refl }) (record { wide = book_wide t [] tt; front = book_front; tab = refl; count = refl; offset = refl; width = refl }) (record { wide = book_wide t [] tt; front = book_front; tab = refl; count = refl; offset = refl; width = refl }) (record { wide = book_wide t [] tt; front = book_front; tab = refl; count = refl; offset = refl; width = refl }) (record { wide = book_wide t [] tt; front = book_front; tab = refl; count = refl; offset = refl; width = refl })
      (book_word_at 10 (omega arith)) (book_word_at 11 (omega arith)) (book_word_at 12 (omega arith))

-- ---- a fit's file, beside any book

module _ (t : Tables) (g : Fits32 t) (few : FewFit t) where
  abbrev pub fit_numbers : List ℕ
  fit_numbers = pairs_from 48 (fit_tabs t) ++ (number t.header 3 ∷ number t.header 4 ∷ [])

  abbrev pub fit_pairs : List (List ℕ)
  fit_pairs = map (λ i. get_or fit_numbers (2 * i) 0 ∷ get_or fit_numbers (2 * i + 1) 0 ∷ []) (from 0 5)

  fit_words : Words fit_numbers
  fit_words =
      pairs-words (fit_tabs t) 48 (number t.header 3 ∷ number t.header 4 ∷ []) (fit_counted t few)
      (omega (arith, few.objects, few.base_attributes, few.ids, few.buffs, few.asks))
      (g.header 3, (g.header 4, tt))

  fit_front : length (words fit_numbers) ≡ 48
  fit_front = words-length fit_numbers

  pub fit_word_at : (j : ℕ) → j < 12 → u32_at (fit_file_of t) (4 * j) ≡ get_or fit_numbers j 0
  unfolding fit_file_of
  fit_word_at j h = words-read fit_numbers (body_of (fit_tabs t)) j h fit_words

  pub fit_pairs_are : five_pairs (fit_file_of t) ≡ fit_pairs
  fit_pairs_are = pairs-read (fit_file_of t) fit_numbers 5 (λ j h. fit_word_at j (omega (arith, h)))

  pub fit_file_reads_back : (k : List ℕ) → fit_of (fit_file_of t) (pairs_in k (fit_file_of t)) ≡ fit_lent t
  unfolding fit_file_of
  fit_file_reads_back k =
      ap (λ (l : List (List ℕ)). fit_of (fit_file_of t) (five_pairs k ++ l)) fit_pairs_are
      ∙ fit_read t g {xs = fit_tabs t} {p = words fit_numbers} {at = 48} {pairs = five_pairs k ++ fit_pairs} {j1 = 0} {j2 = 1} {j3 = 2} {j4 = 3} {j5 = 4} (record { wide = fit_wide t; front = fit_front; tab = refl; count = refl; offset = refl; width = refl }) (record { wide = fit_wide t; front = fit_front; tab = refl; count = refl; offset = refl; width = refl }) (record { wide = fit_wide t; front = fit_front; tab = refl; count = refl; offset = refl; width = refl }) (record { wide = fit_wide t; front = fit_front; tab = refl; count = refl; offset = refl; width = refl }) (record { wide = fit_wide t; front = fit_front; tab = refl; count = refl; offset = refl; width = refl })
      (fit_word_at 10 (omega arith)) (fit_word_at 11 (omega arith))
