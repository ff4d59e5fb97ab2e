-- What is said of an export: the text that stands at the front, or the line of its refusal.
use Prim.Native.Nat.{ℕ, suc, ◌+◌, ◌-◌, ◌≤◌, ◌<◌}
use native.Mathlib.Numerals.{add-one}
use native.Mathlib.Omega.{arith}
use mathlib.Core.Path.{◌≡◌, refl, sym, ap, ◌∙◌}
use mathlib.Core.Bool.{Bool, true, false, ◌&&◌, true≢false}
use mathlib.Core.List.{List, [], ◌∷◌, ◌++◌}
use mathlib.Core.Option.{Option, none, some}
use lib.Dec.{leb}
use lib.IntN.{ℤ}
use lib.ListN.{length, take, replicate}
use lib.Seq.{take-append_seam}
use borrow.Author.Tests.{leb-true}
use Rattle.laws.specs.Columns.{column}
use Rattle.laws.proofs.Laid.{column_length}
use Rattle.laws.proofs.Maps.{map_itself}
use Rattle.rules.specs.Answer.{Res, ok, refused, number, place}
use Rattle.rules.specs.Listing.{ascii, listing}
use Rattle.rules.specs.Answer.{Refused}
use Rattle.rules.specs.declared.Refusal.{Refusal}
use Rattle.rules.specs.declared.Refusal.TheVariants as refusal_is
use Rattle.rules.specs.Outcome.{Done}
use Rattle.listing.specs.Put.{Begins}
use Rattle.listing.proofs.Told.{no_number}
use Rattle.csv_text.specs.Csv.{csv}
use Rattle.csv_text.specs.Labels.{Export, text, engine, label, full, id_of, label_good, stands_after, bad_from, label_bad, labels_of, records, fitted, labelled, export_of, number_of, place_of, text_of}
use Rattle.csv_text.specs.Puts.{Told, IsRefused, number_in}
use Rattle.csv_text.specs.declared.ExportRefusal.{ExportRefusal}
use Rattle.csv_text.specs.declared.ExportRefusal.TheVariants as export_refusal
use Rattle.lines.specs.Lines.{Rows, label_lines}
use Rattle.said.specs.Said.{Says, answer, refusal, bad_line}
use Rattle.exports.specs.ExportText.{labels_lent, export_says, with_labels, export_text}

-- ---- a text is no longer than the bytes lent

module _ (d : Done) (t : List ℕ) (n : ℕ) where
  fitted-fits : (b : Bool) → leb (length t) n ≡ b → length (text_of (fitted b d t)) ≤ n
  fitted-fits true e = leb-true (length t) n e
  fitted-fits false e = omega arith

  labelled-fits : (o : Option ℕ) → length (text_of (labelled o d t n)) ≤ n
  labelled-fits (some i) = omega arith
  labelled-fits none = fitted-fits (leb (length t) n) refl

pub fits : (o : Res Done) (ls : List (List ℕ)) (bytes : List ℕ) (n : ℕ) → length (text_of (export_of o ls bytes n)) ≤ n
unfolding export_of
fits (refused x) ls bytes n = omega arith
fits (ok d) ls bytes n = labelled-fits d (csv (records (labels_of bytes ls) d)) n (label_bad bytes ls)

-- ---- what is said

front : (t : List ℕ) (n : ℕ) → take (length t) (column (λ y. y) 0 t n) ≡ t
unfolding column
front t n = ap (λ (s : List ℕ). take (length t) (s ++ replicate (n - length t) 0)) (map_itself t) ∙ take-append_seam t (replicate (n - length t) 0)

pub says_text : (x : Export) (n : ℕ) {now : List ℕ} {end : ℕ} → number_of x ≡ 0 → end ≡ length (text_of x) → now ≡ column (λ y. y) 0 (text_of x) n → answer (take end now) ≡ export_says x
says_text (text d t) n {now} {end} z e k = ap answer (rw (e, k) (front t n))
says_text (engine x) n z e k = absurd (no_number x z)
says_text (label i) n z e k = absurd (omega (arith, z))
says_text full n z e k = absurd (omega (arith, z))

-- no refusal of the engine has LABEL's number
no_label : (x : Refusal) → number (Refused x) ≡ 16 → ⊥
no_label (refusal_is.Shape p) e = omega (arith, e)
no_label (refusal_is.Func p) e = omega (arith, e)
no_label (refusal_is.Domain p) e = omega (arith, e)
no_label (refusal_is.Category p) e = omega (arith, e)
no_label (refusal_is.Operation p) e = omega (arith, e)
no_label (refusal_is.Other p) e = omega (arith, e)
no_label (refusal_is.Room p) e = omega (arith, e)
no_label (refusal_is.Number p) e = omega (arith, e)
no_label (refusal_is.Depth p) e = omega (arith, e)

pub not_label : (why : ExportRefusal) → IsRefused why → ((i : ℕ) → why ≡ export_refusal.Label i → ⊥) → number_in why ≡ 16 → ⊥
not_label (export_refusal.Engine n p) (y, a, b) h e = no_label y (sym a ∙ e)
not_label (export_refusal.Label i) r h e = h i refl
not_label export_refusal.Full r h e = omega (arith, e)

pub says_label : (x : Export) {now : List ℕ} {end n : ℕ} → number_of x ≡ 16 → n ≡ place_of x + 1
    → Begins now end (bad_line (ascii "labels, line ") n (ascii ": over 64 bytes, a byte that is not printable, or an id that does not ascend\n")) → refusal (take end now) ≡ export_says x
says_label (text d t) z k b = absurd (omega (arith, z))
says_label (engine x) z k b = absurd (no_label x z)
says_label (label i) z k b = ap refusal (b.first ∙ ap (λ (m : ℕ). bad_line (ascii "labels, line ") m (ascii ": over 64 bytes, a byte that is not printable, or an id that does not ascend\n")) (k ∙ add-one i))
says_label full z k b = absurd (omega (arith, z))

-- every other refusal is one of 01's
pub says-refused : (x : Export) {now : List ℕ} {end : ℕ} → (number_of x ≡ 0 → ⊥) → (number_of x ≡ 16 → ⊥)
    → ((y : Refusal) → number (Refused y) ≡ number_of x → place (Refused y) ≡ place_of x → Begins now end (listing (refused y))) → (refusal (take end now) ≡ export_says x) × (end ≤ length now)
says-refused (text d t) z l b = absurd (z refl)
says-refused (engine x) z l b = (ap refusal (b x refl refl).first, (b x refl refl).inside)
says-refused (label i) z l b = absurd (l refl)
says-refused full z l b = (ap refusal (b (refusal_is.Room 8) refl refl).first, (b (refusal_is.Room 8) refl refl).inside)

-- ---- a bad label is one of those lent

abbrev some?? : Option ℕ → Bool
some?? none = false
some?? (some i) = true

abbrev within_some : Option ℕ → ℕ
within_some none = 0
within_some (some i) = i

-- by whether the next label is good
module _ (bytes : List ℕ) (n : ℕ) (r : List ℕ) (rs : List (List ℕ)) (i : ℕ) (more : bad_from bytes (suc n) (some (id_of r)) rs ≡ some i → i < suc n + length rs) where
  bad_step : (t : Bool) → ◌≡◌ {A = Option ℕ} (elim t [ false ↦ some n | true ↦ bad_from bytes (suc n) (some (id_of r)) rs ]) (some i) → i < n + suc (length rs)
  bad_step false q = omega (arith, ap within_some q)
  bad_step true q = omega (arith, more q)

bad_within : (bytes : List ℕ) (n : ℕ) (last : Option ℤ) (ls : List (List ℕ)) (i : ℕ) → bad_from bytes n last ls ≡ some i → i < n + length ls
unfolding bad_from
bad_within bytes n last [] i e = absurd (true≢false (sym (ap some?? e)))
bad_within bytes n last (r ∷ rs) i e = bad_step bytes n r rs i (λ q. bad_within bytes (suc n) (some (id_of r)) rs i q) (stands_after last (id_of r) && label_good bytes r) e

labelled-within : (d : Done) (t : List ℕ) (n : ℕ) (o : Option ℕ) (k : ℕ) → ((i : ℕ) → o ≡ some i → i < k) → number_of (labelled o d t n) ≡ 16 → place_of (labelled o d t n) < k
labelled-within d t n (some i) k h z = h i refl
labelled-within d t n none k h z = absurd (by (leb (length t) n) z)
  where
    by : (b : Bool) → number_of (fitted b d t) ≡ 16 → ⊥
    by true q = omega (arith, q)
    by false q = omega (arith, q)

pub label_within : (o : Res Done) (ls : List (List ℕ)) (bytes : List ℕ) (n : ℕ) → number_of (export_of o ls bytes n) ≡ 16 → place_of (export_of o ls bytes n) < length ls
unfolding export_of
label_within (refused x) ls bytes n z = absurd (no_label x z)
label_within (ok d) ls bytes n z = labelled-within d (csv (records (labels_of bytes ls) d)) n (label_bad bytes ls) (length ls) (λ i e. omega (arith, bad_within bytes 0 none ls i e)) z

-- ---- of a call that lent n bytes

module _ (o : Res Done) (ls : List (List ℕ)) (bytes : List ℕ) (n : ℕ) (told : Told) (now : List ℕ)
    (t : told ≡ record { number = number_of (export_of o ls bytes n); place = place_of (export_of o ls bytes n); length = length (text_of (export_of o ls bytes n)) })
    (c : now ≡ column (λ y. y) 0 (text_of (export_of o ls bytes n)) n) where
  its_number : told.number ≡ number_of (export_of o ls bytes n)
  its_number = ap (λ (r : Told). r.number) t

  its_place : told.place ≡ place_of (export_of o ls bytes n)
  its_place = ap (λ (r : Told). r.place) t

  its_length : told.length ≡ length (text_of (export_of o ls bytes n))
  its_length = ap (λ (r : Told). r.length) t

  pub said_text : told.number ≡ 0 → (answer (take told.length now) ≡ export_says (export_of o ls bytes n)) × (told.length ≤ length now)
  said_text z = (
    says_text (export_of o ls bytes n) n (sym its_number ∙ z) its_length c,
    omega (arith, its_length, fits o ls bytes n, ap length c, column_length (λ y. y) 0 (text_of (export_of o ls bytes n)) n (fits o ls bytes n)),
  )

  pub label_small : told.number ≡ 16 → length ls ≤ 4096 → told.place ≤ 4095
  label_small z h = omega (arith, h, its_place, label_within o ls bytes n (sym its_number ∙ z))

  pub said_label : {after : List ℕ} {end line : ℕ} → told.number ≡ 16 → line ≡ told.place + 1
      → Begins after end (bad_line (ascii "labels, line ") line (ascii ": over 64 bytes, a byte that is not printable, or an id that does not ascend\n"))
      → (refusal (take end after) ≡ export_says (export_of o ls bytes n)) × (end ≤ length after)
  said_label z l b = (says_label (export_of o ls bytes n) (sym its_number ∙ z) (l ∙ ap (λ (m : ℕ). m + 1) its_place) b, b.inside)

  pub said_refused : {after : List ℕ} {end : ℕ} → (told.number ≡ 0 → ⊥) → (told.number ≡ 16 → ⊥)
      → ((y : Refusal) → number (Refused y) ≡ told.number → place (Refused y) ≡ told.place → Begins after end (listing (refused y)))
      → (refusal (take end after) ≡ export_says (export_of o ls bytes n)) × (end ≤ length after)
  said_refused z l b =
      let g = says-refused (export_of o ls bytes n) (λ e. z (its_number ∙ e)) (λ e. l (its_number ∙ e)) (λ y p q. b y (p ∙ sym its_number) (q ∙ sym its_place)) in
      (g.0, g.1)

-- ---- what was read of the labels' lines

pub says-lines : (n : ℕ) (sheet labels : List ℕ) {r : Rows} {s : Says} → r ≡ label_lines labels_lent labels → s ≡ with_labels n sheet labels r → s ≡ export_text n sheet labels
unfolding export_text
says-lines n sheet labels e k = k ∙ ap (with_labels n sheet labels) e
