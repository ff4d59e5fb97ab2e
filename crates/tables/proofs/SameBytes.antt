-- "A sheet read and written again has the same bytes."
use Prim.Native.Nat.{ℕ, zero, suc, ◌+◌, ◌*◌, ◌^◌, ◌≤◌, ◌<◌}
use native.Mathlib.Nat.{zero-add}
use native.Mathlib.Omega.{arith}
use mathlib.Core.Path.{◌≡◌, refl, sym, ap, ◌∙◌, subst}
use mathlib.Core.Bool.{Bool, true, false, ◌&&◌}
use mathlib.Core.List.{List, [], ◌++◌, map}
use mathlib.Core.Option.{Option, none}
use lib.ListN.{length, get_or, take, drop, length-map, take-append-drop}
use lib.Dec.{leb, eqb, T}
use lib.Ieee.{Float, binary64, fits}
use lib.Ieee.Bits.{of_bits-fits}
use borrow.Author.Tests.{leb-true, le-leb, eqb-true, eq-eqb}
use Rattle.laws.specs.Lists.{every?, from, ascends}
use Rattle.laws.specs.Floats.{finite, zero_f}
use Rattle.laws.proofs.Bools.{and_left, and_right, and_both}
use Rattle.laws.proofs.Every.{every_at}
use Rattle.laws.proofs.From.{from_at, table_at, table-length}
use Rattle.laws.proofs.Maps.{map-map}
use Rattle.rules.specs.Bytes.{u32_at, f64_at, bits, pairs_of, count_of, offset_of, categories_at, depth_at, width_of, limit_of, record_at}
use Rattle.rules.specs.Sheet.{book_of, fit_of, table, attribute_from, effect_from, modifier_from, type_effect_from, buff_collection_from, object_from, base_from, id_from, buff_from, ask_from}
use Rattle.rules.specs.Shape.{end_of, placed, header_good, attributes_good, bases_good, buffs_good, book_bad, fit_bad, bad_shape}
use Rattle.rules.proofs.Verdicts.{attributes_good_lem, bases_good_lem, buffs_good_lem}
use Rattle.rules.proofs.Places.{at_80, at_92}
use Rattle.tables.specs.Layout.{word, words, Words, Octets}
use Rattle.tables.specs.Tables.{Tables, fields, value, book_alike, fit_alike, attribute_row, effect_row, modifier_row, type_effect_row, buff_collection_row, object_row, ask_row, attribute_bytes, value_bytes, book_tabs, fit_tabs, pairs_from, body_of, tables_bad, sheet_of, sheet, fitted, judged, written, tables_of, tables_in}
use Rattle.tables.proofs.Back.{words_back}
use Rattle.tables.proofs.Again.{small, unsigned, small_bits, attribute_words, effect_words, modifier_words, type_effect_words, buff_collection_words, object-words, ask_words, attribute_again, effect_again, modifier_again, type_effect_again, buff_collection_again, object-again, value-again, id-again, ask_again}
use Rattle.tables.proofs.Stretches.{octets_take, octets_drop, Gapless, record_wide, Again, AllAgain, body_again, pairs-again}
use Rattle.tables.specs.Fits.{Rowed, Held, Small, Fits32, FewBook, FewFit}
use Rattle.tables.proofs.SameVerdict.{decided, decided_none, same_verdict}

-- ---- a column of what is read

module _ {A B : Type 0} (f : ℕ → A) (g : A → B) where
  column_length : (n : ℕ) → length (map g (map f (from 0 n))) ≡ n
  column_length n = length-map (map f (from 0 n)) g ∙ table-length f 0 n

  column_at : (n k : ℕ) (d : B) → k < n → get_or (map g (map f (from 0 n))) k d ≡ g (f k)
  column_at n k d h = ap (λ (l : List B). get_or l k d) (map-map g f (from 0 n)) ∙ table_at (λ i. g (f i)) 0 n k d h ∙ ap (λ (i : ℕ). g (f i)) (zero-add k)

  -- what holds of each holds of column k, whatever stands past the end
  column_all : (P : B → Type 0) (d : B) → P d → ((k : ℕ) → P (g (f k))) → (a n k : ℕ) → P (get_or (map g (map f (from a n))) k d)
  column_all P d z p a zero k = z
  column_all P d z p a (suc n) zero = p a
  column_all P d z p a (suc n) (suc k) = column_all P d z p (suc a) n k

pub every_read : {A : Type 0} (p : A → Bool) (f : ℕ → A) (n k : ℕ) → every? p (map f (from 0 n)) ≡ true → k < n → p (f k) ≡ true
every_read p f n k e h =
    subst (λ a. p a ≡ true) (table_at f 0 n k (f 0) h ∙ ap f (zero-add k)) (every_at p (map f (from 0 n)) k (f 0) e (rw (table-length f 0 n) h))

so : (t : Bool) → T t → t ≡ true
so true h = refl
so false h = elim h [ ]

read_fits : (r : List ℕ) (i : ℕ) → fits binary64 (f64_at r i) ≡ true
read_fits r i = so _ (of_bits-fits binary64 (u32_at r i + 2 ^ 32 * u32_at r (i + 4)))

-- ---- what the verdict says

module _ (b : List ℕ) (o : Octets b) (e : bad_shape b ≡ none) where
  abbrev ps : List (List ℕ)
  ps = pairs_of b

  verdicts : (header_good b ps ≡ true) × ((book_bad (book_of b ps) ≡ none) × (fit_bad (fit_of b ps) ≡ none))
  unfolding bad_shape decided
  verdicts = decided_none (header_good b ps) (book_bad (book_of b ps)) (fit_bad (fit_of b ps)) e

  laid : leb 100 (length b) && every? (placed ps) (from 0 10) && eqb (end_of ps 10) (length b) ≡ true
  unfolding header_good
  laid =
      and_left _ (leb 1 (u32_at b 92)) (and_left _ (leb (u32_at b 92) 256) (and_left _ (leb (u32_at b 96) 1) verdicts.0))

  long : 100 ≤ length b
  long = leb-true 100 (length b) (and_left (leb 100 (length b)) _ (and_left _ (eqb (end_of ps 10) (length b)) laid))

  placed_at : (i : ℕ) → i < 10 → placed ps i ≡ true
  placed_at i h =
      subst (λ (j : ℕ). placed ps j ≡ true) (from_at 0 10 i 0 h ∙ zero-add i)
      (every_at (placed ps) (from 0 10) i 0 (and_right (leb 100 (length b)) _ (and_left _ (eqb (end_of ps 10) (length b)) laid)) h)

  few_at : (i : ℕ) → i < 10 → count_of ps (suc i) ≤ limit_of (suc i)
  few_at i h = leb-true _ _ (and_left (leb (count_of ps (suc i)) (limit_of (suc i))) _ (placed_at i h))

  gapless : Gapless b ps
  gapless =
      record {
        next = λ i h. eqb-true _ _ (and_right (leb (count_of ps (suc i)) (limit_of (suc i))) _ (placed_at i h));
        end = eqb-true _ _ (and_right (leb 100 (length b) && every? (placed ps) (from 0 10)) _ laid);
      }

  -- record k of table i
  abbrev rec : ℕ → ℕ → List ℕ
  rec i k = record_at b ps i k

  octets : (i k : ℕ) → Octets (rec i k)
  octets i k = octets_take (width_of i) (drop (offset_of ps i + width_of i * k) b) (octets_drop (offset_of ps i + width_of i * k) b o)

  -- "All floats are finite"
  default_finite : (k : ℕ) → k < count_of ps 1 → finite (f64_at (rec 1 k) 8) ≡ true
  unfolding attributes_good book_of
  default_finite k h =
      and_right (leb (u32_at (rec 1 k) 4) 3) (finite (f64_at (rec 1 k) 8))
      (every_read (λ r. leb r.flags 3 && finite r.default_value) (λ k. attribute_from k (rec 1 k)) (count_of ps 1) k
      (and_right (ascends (map (λ r. r.id) (book_of b ps).attributes)) _ (attributes_good_lem (book_of b ps) verdicts.1.0)) h)

  base_finite : (k : ℕ) → k < count_of ps 7 → finite (f64_at (rec 7 k) 4) ≡ true
  unfolding bases_good fit_of
  base_finite k h =
      every_read (λ r. finite r.value) (λ k. base_from k (rec 7 k)) (count_of ps 7) k
      (and_left (every? (λ r. finite r.value) (fit_of b ps).bases) _ (bases_good_lem (fit_of b ps) verdicts.1.1)) h

  buff_finite : (k : ℕ) → k < count_of ps 9 → finite (f64_at (rec 9 k) 4) ≡ true
  unfolding buffs_good fit_of
  buff_finite k h =
      every_read (λ r. finite r.value) (λ k. buff_from k (rec 9 k)) (count_of ps 9) k (buffs_good_lem (fit_of b ps) verdicts.1.1) h

  abbrev t : Tables
  t = tables_in b

  -- a table whose records are read, laid down and put one by one; and one with a float beside
  module _ {A X : Type 0} (i : ℕ) (l : i < 10) (read : ℕ → List ℕ → A) (lay : A → X) (d : X) where
    plain-again : (put : X → List ℕ)
        → ((k : ℕ) → length (rec (suc i) k) ≡ width_of (suc i) → put (lay (read k (rec (suc i) k))) ≡ rec (suc i) k)
        → Again b ps i (record { width = width_of (suc i); count = length (map lay (table read (suc i) b ps)); bytes = λ k. put (get_or (map lay (table read (suc i) b ps)) k d) })
    plain-again put r =
        record {
          width = refl;
          count = column_length (λ k. read k (rec (suc i) k)) lay (count_of ps (suc i));
          bytes = λ k h. ap put (column_at (λ k. read k (rec (suc i) k)) lay (count_of ps (suc i)) k d h) ∙ r k (record_wide gapless i k l h);
        }

    valued-again : (val : A → Float) (put : X → Float → List ℕ)
        → ((k : ℕ) → k < count_of ps (suc i) → length (rec (suc i) k) ≡ width_of (suc i) → put (lay (read k (rec (suc i) k))) (val (read k (rec (suc i) k))) ≡ rec (suc i) k)
        → Again b ps i (record { width = width_of (suc i); count = length (map lay (table read (suc i) b ps)); bytes = λ k. put (get_or (map lay (table read (suc i) b ps)) k d) (value (map val (table read (suc i) b ps)) k) })
    valued-again val put r =
        record {
          width = refl;
          count = column_length (λ k. read k (rec (suc i) k)) lay (count_of ps (suc i));
          bytes = λ k h.
              ap (λ (x : X). put x (value (map val (table read (suc i) b ps)) k)) (column_at (λ k. read k (rec (suc i) k)) lay (count_of ps (suc i)) k d h)
              ∙ ap (put (lay (read k (rec (suc i) k)))) (column_at (λ k. read k (rec (suc i) k)) val (count_of ps (suc i)) k zero_f h)
              ∙ r k h (record_wide gapless i k l h);
        }

  all-again : AllAgain b ps 0 (book_tabs t ++ fit_tabs t)
  unfolding tables_of book_of fit_of
  all-again =
      let table-1 = valued-again 0 (omega arith) attribute_from attribute_row [] (λ r. r.default_value) attribute_bytes (λ k h e. attribute_again (rec 1 k) (octets 1 k) k e (default_finite k h)) in
      let table-2 = plain-again 1 (omega arith) effect_from effect_row [] (λ r. words (fields 6 r)) (λ k. effect_again (rec 2 k) (octets 2 k) k) in
      let table-3 = plain-again 2 (omega arith) modifier_from modifier_row [] (λ r. words (fields 7 r)) (λ k. modifier_again (rec 3 k) (octets 3 k) k) in
      let table-4 = plain-again 3 (omega arith) type_effect_from type_effect_row [] (λ r. words (fields 3 r)) (λ k. type_effect_again (rec 4 k) (octets 4 k) k) in
      let table-5 = plain-again 4 (omega arith) buff_collection_from buff_collection_row [] (λ r. words (fields 4 r)) (λ k. buff_collection_again (rec 5 k) (octets 5 k) k) in
      let table-6 = plain-again 5 (omega arith) object_from object_row [] (λ r. words (fields 17 r)) (λ k. object-again (rec 6 k) (octets 6 k) k) in
      let table-7 = valued-again 6 (omega arith) base_from (λ r. bits r.attribute_id) 0 (λ r. r.value) value_bytes (λ k h e. value-again (rec 7 k) (octets 7 k) e (base_finite k h)) in
      let table-8 = plain-again 7 (omega arith) id_from bits 0 word (λ k. id-again (rec 8 k) (octets 8 k)) in
      let table-9 = valued-again 8 (omega arith) buff_from (λ r. bits r.id) 0 (λ r. r.value) value_bytes (λ k h e. value-again (rec 9 k) (octets 9 k) e (buff_finite k h)) in
      let table-10 = plain-again 9 (omega arith) ask_from ask_row [] (λ r. words (fields 2 r)) (λ k. ask_again (rec 10 k) (octets 10 k) k) in
      (table-1, (table-2, (table-3, (table-4, (table-5, (table-6, (table-7, (table-8, (table-9, (table-10, refl))))))))))

  all_placed : every? (placed ps) (from 0 10) ≡ true
  all_placed = and_right (leb 100 (length b)) _ (and_left _ (eqb (end_of ps 10) (length b)) laid)

  -- the header's 25 words
  numbers_again : pairs_from 100 (book_tabs t ++ fit_tabs t) ++ fields 5 t.header ≡ map (λ j. u32_at b (4 * j)) (from 0 25)
  unfolding tables_of book_of fit_of
  numbers_again =
      ap (λ (l : List ℕ). l ++ fields 5 t.header) (pairs-again gapless 0 (book_tabs t ++ fit_tabs t) refl all-again)
      ∙ rw (at_80 ps all_placed, at_92 ps all_placed) (rw (unsigned b o 80, unsigned b o 84, unsigned b o 88) refl)

  pub same_bytes : sheet_of t ≡ b
  unfolding sheet_of
  same_bytes =
      ap (λ (l : List ℕ). words l ++ body_of (book_tabs t ++ fit_tabs t)) numbers_again
      ∙ ap (λ (l : List ℕ). l ++ body_of (book_tabs t ++ fit_tabs t)) (words_back b 0 25 long o)
      ∙ ap (λ (l : List ℕ). take 100 b ++ l) (body_again gapless 0 (book_tabs t ++ fit_tabs t) refl all-again)
      ∙ take-append-drop 100 b

  -- ---- "exactly the tables that 01's section allows": these are among them

  rowed : {A : Type 0} (i w : ℕ) (read : ℕ → List ℕ → A) (lay : A → List ℕ)
      → ((k : ℕ) → (length (lay (read k (rec i k))) ≡ w) × Words (lay (read k (rec i k)))) → Rowed w (map lay (table read i b ps))
  rowed i w read lay p k h =
      subst (λ (r : List ℕ). (length r ≡ w) × Words r)
      (sym (column_at (λ k. read k (rec i k)) lay (count_of ps i) k [] (rw (column_length (λ k. read k (rec i k)) lay (count_of ps i)) at h)))
      (p k)

  held : {A : Type 0} (i : ℕ) (read : ℕ → List ℕ → A) (val : A → Float) → ((k : ℕ) → fits binary64 (val (read k (rec i k))) ≡ true) → Held (map val (table read i b ps))
  unfolding fits
  held i read val p = column_all (λ k. read k (rec i k)) val (λ x. fits binary64 x ≡ true) zero_f refl p 0 (count_of ps i)

  small_all : {A : Type 0} (i : ℕ) (read : ℕ → List ℕ → A) (lay : A → ℕ) → ((k : ℕ) → lay (read k (rec i k)) < 2 ^ 32) → Small (map lay (table read i b ps))
  small_all i read lay p = column_all (λ k. read k (rec i k)) lay (λ n. n < 2 ^ 32) 0 (omega arith) p 0 (count_of ps i)

  header_small : Small t.header
  unfolding tables_of book_of fit_of
  header_small zero = small_bits b o (categories_at ps)
  header_small (suc zero) = small_bits b o (categories_at ps + 4)
  header_small (suc (suc zero)) = small_bits b o (categories_at ps + 8)
  header_small (suc (suc (suc zero))) = small b o (depth_at ps)
  header_small (suc (suc (suc (suc zero)))) = small b o (depth_at ps + 4)
  header_small (suc (suc (suc (suc (suc k))))) = omega arith

  as_typed : Fits32 t
  unfolding tables_of book_of fit_of
  as_typed =
      record {
        header = header_small;
        attributes = rowed 1 4 attribute_from attribute_row (λ k. (refl, attribute_words (rec 1 k) (octets 1 k) k));
        defaults = held 1 attribute_from (λ r. r.default_value) (λ k. read_fits (rec 1 k) 8);
        effects = rowed 2 6 effect_from effect_row (λ k. (refl, effect_words (rec 2 k) (octets 2 k) k));
        modifiers = rowed 3 7 modifier_from modifier_row (λ k. (refl, modifier_words (rec 3 k) (octets 3 k) k));
        type_effects = rowed 4 3 type_effect_from type_effect_row (λ k. (refl, type_effect_words (rec 4 k) (octets 4 k) k));
        buff_collections = rowed 5 4 buff_collection_from buff_collection_row (λ k. (refl, buff_collection_words (rec 5 k) (octets 5 k) k));
        objects = rowed 6 17 object_from object_row (λ k. (refl, object-words (rec 6 k) (octets 6 k) k));
        base_attributes = small_all 7 base_from (λ r. bits r.attribute_id) (λ k. small_bits (rec 7 k) (octets 7 k) 0);
        base_values = held 7 base_from (λ r. r.value) (λ k. read_fits (rec 7 k) 4);
        ids = small_all 8 id_from bits (λ k. small_bits (rec 8 k) (octets 8 k) 0);
        buffs = small_all 9 buff_from (λ r. bits r.id) (λ k. small_bits (rec 9 k) (octets 9 k) 0);
        buff_values = held 9 buff_from (λ r. r.value) (λ k. read_fits (rec 9 k) 4);
        asks = rowed 10 2 ask_from ask_row (λ k. (refl, ask_words (rec 10 k) (octets 10 k) k));
      }

  few_of : {A X : Type 0} (i : ℕ) (read : ℕ → List ℕ → A) (lay : A → X) → i < 10 → length (map lay (table read (suc i) b ps)) ≤ limit_of (suc i)
  few_of i read lay h = subst (λ (n : ℕ). n ≤ limit_of (suc i)) (sym (column_length (λ k. read k (rec (suc i) k)) lay (count_of ps (suc i)))) (few_at i h)

  few_book : FewBook t
  unfolding tables_of book_of fit_of
  few_book =
      record {
        attributes = few_of 0 attribute_from attribute_row (omega arith);
        effects = few_of 1 effect_from effect_row (omega arith);
        modifiers = few_of 2 modifier_from modifier_row (omega arith);
        type_effects = few_of 3 type_effect_from type_effect_row (omega arith);
        buff_collections = few_of 4 buff_collection_from buff_collection_row (omega arith);
      }

  few_fit : FewFit t
  unfolding tables_of book_of fit_of
  few_fit =
      record {
        objects = few_of 5 object_from object_row (omega arith);
        base_attributes = few_of 6 base_from (λ r. bits r.attribute_id) (omega arith);
        ids = few_of 7 id_from bits (omega arith);
        buffs = few_of 8 buff_from (λ r. bits r.id) (omega arith);
        asks = few_of 9 ask_from ask_row (omega arith);
      }

  same_length : {A X Y : Type 0} (xs : List A) (f : A → X) (g : A → Y) → eqb (length (map f xs)) (length (map g xs)) ≡ true
  same_length xs f g = eq-eqb _ _ (length-map xs f ∙ sym (length-map xs g))

  like_book : book_alike t ≡ true
  unfolding tables_of
  like_book = same_length (book_of b ps).attributes attribute_row (λ r. r.default_value)

  like_fit : fit_alike t ≡ true
  unfolding tables_of
  like_fit =
      and_both (same_length (fit_of b ps).bases (λ r. bits r.attribute_id) (λ r. r.value))
      (same_length (fit_of b ps).buffs (λ r. bits r.id) (λ r. r.value))

  pub same_tables_good : tables_bad t ≡ none
  same_tables_good = sym (same_verdict t as_typed few_book few_fit like_book like_fit) ∙ ap bad_shape same_bytes ∙ e

  pub written-again : written t (length b) ≡ sheet b
  unfolding written
  written-again =
      ap (λ (o : Option ℕ). judged o (sheet_of t) (length b)) same_tables_good
      ∙ ap (λ (s : List ℕ). fitted (leb (length s) (length b)) s) same_bytes
      ∙ ap (λ (h : Bool). fitted h b) (le-leb (length b) (length b) (omega arith))
