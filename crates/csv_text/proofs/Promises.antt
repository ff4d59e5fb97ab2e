-- What holds of every export: a text is of what is done, and reading it by the RFC gives back its records.
use Prim.Native.Nat.{ℕ, ◌+◌}
use mathlib.Core.Path.{◌≡◌, refl, sym, ap, ◌∙◌}
use mathlib.Core.Bool.{Bool, true, false, true≢false}
use mathlib.Core.List.{List, [], ◌∷◌, cons-ne-nil}
use mathlib.Core.Option.{Option, none, some}
use lib.Dec.{leb}
use lib.Ieee.{Float}
use lib.IntN.{ℤ}
use lib.ListN.{length}
use Rattle.laws.specs.Lists.{eq_z, every?, first, or_else}
use Rattle.laws.proofs.Bools.{and_left, and_right}
use Rattle.rules.specs.Answer.{Res, ok, refused}
use Rattle.rules.specs.Columns.{value_list}
use Rattle.rules.specs.Dispatch.{Row}
use Rattle.rules.specs.Listing.{ascii}
use Rattle.rules.specs.Number.{hundredths_of}
use Rattle.rules.specs.Outcome.{Done}
use Rattle.csv_text.specs.Csv.{csv, read, Allowed, Writable}
use Rattle.csv_text.specs.Labels.{first_of, count_of, id_of, bytes_of, allowed, label_good, label_bad, Label, labels_of, text_or, label_of, row_records, records, text, fitted, labelled, export_of}
use Rattle.csv_text.proofs.Judging.{all_good}
use Rattle.csv_text.proofs.Plain.{label_allowed, row-allowed}
use Rattle.csv_text.proofs.ReadBack.{read_back}

-- ---- what is written can be written

-- a good label's bytes, or none
either_allowed : (t : Bool) (l : Label) (o : Option Label) → Allowed l.text → Allowed (text_or o) → Allowed (text_or (or_else t l o))
either_allowed true l o a b = a
either_allowed false l o a b = b

good_bytes : (bytes r : List ℕ) → label_good bytes r ≡ true → every? allowed (bytes_of bytes r) ≡ true
unfolding label_good
good_bytes bytes r e = and_right (leb (first_of r + count_of r) (length bytes)) _ (and_right (leb (count_of r) 64) _ e)

found_allowed : (bytes : List ℕ) (rows : List (List ℕ)) (a : ℤ) → every? (label_good bytes) rows ≡ true → Allowed (label_of (labels_of bytes rows) a)
found_allowed bytes [] a e = tt
found_allowed bytes (r ∷ rs) a e =
    either_allowed (eq_z (id_of r) a) (record { id = id_of r; text = bytes_of bytes r }) (first (λ l. eq_z l.id a) (labels_of bytes rs))
    (label_allowed (bytes_of bytes r) (good_bytes bytes r (and_left (label_good bytes r) (every? (label_good bytes) rs) e)))
    (found_allowed bytes rs a (and_right (label_good bytes r) (every? (label_good bytes) rs) e))

module _ (ls : List Label) (G : (a : ℤ) → Allowed (label_of ls a)) where
  rows_writable : (rs : List Row) (vs : List Float) → Writable (row_records ls rs vs)
  unfolding row_records
  rows_writable [] vs = tt
  rows_writable (r ∷ rs) [] = tt
  rows_writable (r ∷ rs) (v ∷ vs) = ((cons-ne-nil _ _, row-allowed r.object r.id (label_of ls r.id) (hundredths_of v) (G r.id)), rows_writable rs vs)

  records_writable : (d : Done) → Writable (records ls d)
  records_writable d =
      ((cons-ne-nil _ _, (label_allowed (ascii "object") refl, (label_allowed (ascii "attribute") refl, (label_allowed (ascii "label") refl, (label_allowed (ascii "value") refl, tt))))), rows_writable d.rows (value_list (ok d)))

-- ---- every export

-- of what is done, with its labels: the text, and the records that reading it gives
pub record ReadBack (o : Res Done) (labels : List (List ℕ)) (bytes : List ℕ) (d : Done) (t : List ℕ) : Type 0 where
  pub done : o ≡ ok d
  pub is-csv : t ≡ csv (records (labels_of bytes labels) d)
  pub reads : read t ≡ some (records (labels_of bytes labels) d)

module _ (labels : List (List ℕ)) (bytes : List ℕ) (n : ℕ) (d : Done) (t : List ℕ) where
  same_text : {d' : Done} {t' : List ℕ} → text d' t' ≡ text d t → (d' ≡ d) × (t' ≡ t)
  same_text e = (cc, cc)

  by_room : (u : Bool) (d' : Done) (t' : List ℕ) → fitted u d' t' ≡ text d t → (d' ≡ d) × (t' ≡ t)
  by_room true d' t' e = same_text e
  by_room false d' t' e = let z : true ≡ false = cc in absurd (true≢false z)

  by_label : (d' : Done) (t' : List ℕ) (b : Option ℕ) → labelled b d' t' n ≡ text d t → (b ≡ none) × ((d' ≡ d) × (t' ≡ t))
  by_label d' t' (some i) e = let z : true ≡ false = cc in absurd (true≢false z)
  by_label d' t' none e = (refl, by_room (leb (length t') n) d' t' e)

  -- "Reading the output by the RFC gives back the same fields"
  pub export_read : (o : Res Done) → export_of o labels bytes n ≡ text d t → ReadBack o labels bytes d t
  unfolding export_of
  export_read (refused x) e = let z : true ≡ false = cc in absurd (true≢false z)
  export_read (ok d') e =
      let s = by_label d' (csv (records (labels_of bytes labels) d')) (label_bad bytes labels) e in
      let same : t ≡ csv (records (labels_of bytes labels) d) = sym s.1.1 ∙ ap (λ (x : Done). csv (records (labels_of bytes labels) x)) s.1.0 in
      record {
        done = ap ok s.1.0;
        is-csv = same;
        reads = ap read same ∙ read_back (records (labels_of bytes labels) d) (records_writable (labels_of bytes labels) (λ a. found_allowed bytes labels a (all_good bytes labels s.0).good) d);
      }
