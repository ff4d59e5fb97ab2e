-- What is given back, from what was put and what was cleared.
use Prim.Native.Nat.{ℕ, ◌≤◌}
use native.Mathlib.Omega.{arith}
use Rattle.std.specs.Prelude as code
use Rattle.std.specs.Prelude.{Result, Ok, Err, IfErr}
use Rattle.std.specs.Option.{ok_or}
use Rattle.std.specs.Result.{result_unwrap_or}
use mathlib.Core.Path.{◌≡◌, refl, sym, ap, subst, ◌∙◌}
use mathlib.Core.Bool.{Bool}
use mathlib.Core.List.{List, [], ◌∷◌}
use mathlib.Core.Option.{Option, none, some}
use lib.Dec.{leb}
use lib.Ieee.{Float}
use lib.IntN.{ℤ}
use lib.ListN.{length}
use borrow.Author.Tests.{le-leb, lt-leb}
use Rattle.laws.specs.Columns.{column}
use Rattle.laws.proofs.Laid.{column_none}
use Rattle.rules.specs.Answer.{Res, ok, refused, number, place, answer_of}
use Rattle.rules.specs.Listing.{natural, integer, decimals}
use Rattle.rules.specs.Number.{hundredths_of}
use Rattle.rules.specs.Outcome.{Done}
use Rattle.clear.specs.Ends.{cleared}
use Rattle.clear.proofs.Columned.{cleared_zeros}
use Rattle.listing.specs.Pieces.{Shown, Tells}
use Rattle.listing.proofs.Behind.{begins_long, cleared-behind}
use Rattle.listing.proofs.Told.{no_number}
use Rattle.csv_text.specs.Csv.{record_text, csv}
use Rattle.csv_text.specs.Labels.{label_bad, Label, labels_of, label_of, fields_of, records, Export, fitted, labelled, export_of, text_of}
use Rattle.csv_text.specs.Puts.{AddedOr, BeginsOr, PutBy, IsRefused, number_in}
use Rattle.csv_text.specs.declared.ExportRefusal.{ExportRefusal}
use Rattle.csv_text.specs.declared.ExportRefusal.TheVariants as refusal

-- a row's record by its parts: the id as it was read, and the label that was found for it
pub row_as : (ls : List Label) (o : ℕ) {i j : ℤ} (v : Float) {l : List ℕ} → j ≡ i → l ≡ label_of ls j → record_text (natural o ∷ integer j ∷ l ∷ decimals (hundredths_of v) ∷ []) ≡ record_text (fields_of ls o i v)
row_as ls o {i} {j} v e k =
    ap (λ (l : List ℕ). record_text (natural o ∷ integer j ∷ l ∷ decimals (hundredths_of v) ∷ [])) k ∙ ap (λ (a : ℤ). record_text (fields_of ls o a v)) e

-- other bytes that are the same
pub added_as : (f : code.Option ℕ) (out now : List ℕ) (at : ℕ) {s t : List ℕ} → s ≡ t → AddedOr f out now at s → AddedOr f out now at t
added_as f out now at e x = subst (AddedOr f out now at) e x

-- where a text was put, and zeros behind it
pub ended : (r : Result ℕ ExportRefusal) (now : List ℕ) (x : Export) → PutBy r now x → cleared 0 (result_unwrap_or r 0) now ≡ column (λ b. b) 0 (text_of x) (length now)
ended (Ok end) now x p = cleared-behind p.1
ended (Err e) now x p = cleared_zeros 0 now ∙ sym (ap (λ (l : List ℕ). column (λ b. b) 0 l (length now)) p.1 ∙ column_none (λ b. b) 0 (length now))

-- no refusal has number 0
pub not_zero : (why : ExportRefusal) → IsRefused why → number_in why ≡ 0 → ⊥
not_zero (refusal.Engine n p) (y, a, b) e = no_number y (sym a ∙ e)
not_zero (refusal.Label i) r e = omega (arith, e)
not_zero refusal.Full r e = omega (arith, e)

pub full_refused : (r : code.Option ℕ) → IfErr (ok_or r refusal.Full) IsRefused
full_refused (code.Some end) = tt
full_refused code.None = tt

-- ---- a run that is done, with good labels

module _ (rows : List (List ℕ)) (bytes : List ℕ) (n : ℕ) (d : Done) (G : label_bad bytes rows ≡ none) where
  abbrev whole : List ℕ
  whole = csv (records (labels_of bytes rows) d)

  by_room : {t : Bool} → leb (length whole) n ≡ t → fitted t d whole ≡ export_of (ok d) rows bytes n
  unfolding export_of
  by_room e = ap (λ (b : Bool). fitted b d whole) (sym e) ∙ ap (λ (o : Option ℕ). labelled o d whole n) (sym G)

  put_done : (r : code.Option ℕ) (now : List ℕ) → length now ≡ n → BeginsOr r now whole → PutBy (ok_or r refusal.Full) now (export_of (ok d) rows bytes n)
  put_done (code.Some end) now k b =
      let fits : length whole ≤ n = omega (arith, begins_long b, b.inside, k) in
      subst (PutBy (Ok end) now) (by_room (le-leb (length whole) n fits)) (ap (λ (m : ℕ). record { number = 0; place = 0; length = m }) (begins_long b), b)
  put_done code.None now k b = subst (PutBy (Err refusal.Full) now) (by_room (lt-leb (length whole) n (omega (arith, b, k)))) (refl, refl)

-- ---- any run

-- the engine is done
is-done : (X : Res Done → Type 0) (o : Res Done) {num pl m : ℕ} {rs : List (List ℕ)} {vs : List Float} → Tells o num pl m rs vs → num ≡ 0 → ((d : Done) → Shown d m rs vs → X (ok d)) → X o
is-done X (ok d) t h f = f d (t.by_rows d refl)
is-done X (refused x) t h f = absurd (no_number x (sym t.by_number ∙ h))

module _ (rows : List (List ℕ)) (bytes : List ℕ) (n : ℕ) (now : List ℕ) (o : Res Done) {num pl m : ℕ} {rs : List (List ℕ)} {vs : List Float} (T : Tells o num pl m rs vs) where
  pub put_engine : (num ≡ 0 → ⊥) → PutBy (Err (refusal.Engine num pl)) now (export_of o rows bytes n)
  unfolding export_of
  put_engine h = by o T.by_number T.by_place
    where
      by : (q : Res Done) → num ≡ number (answer_of q) → pl ≡ place (answer_of q) → PutBy (Err (refusal.Engine num pl)) now (export_of q rows bytes n)
      by (ok d) a b = absurd (h a)
      by (refused x) a b = (rw (a, b) refl, refl)

  pub engine_refused : (num ≡ 0 → ⊥) → IsRefused (refusal.Engine num pl)
  engine_refused h = by o T.by_number T.by_place
    where
      by : (q : Res Done) → num ≡ number (answer_of q) → pl ≡ place (answer_of q) → IsRefused (refusal.Engine num pl)
      by (ok d) a b = absurd (h a)
      by (refused x) a b = (x, a, b)

  pub put_label : (i : ℕ) → num ≡ 0 → some i ≡ label_bad bytes rows → PutBy (Err (refusal.Label i)) now (export_of o rows bytes n)
  unfolding export_of
  put_label i h e =
      is-done (λ (y : Res Done). PutBy (Err (refusal.Label i)) now (export_of y rows bytes n)) o T h
      (λ d s. subst (PutBy (Err (refusal.Label i)) now) (ap (λ (x : Option ℕ). labelled x d (csv (records (labels_of bytes rows) d)) n) e) (refl, refl))

  pub put_rows : num ≡ 0 → label_bad bytes rows ≡ none → (r : code.Option ℕ) → length now ≡ n → ((d : Done) → Shown d m rs vs → BeginsOr r now (csv (records (labels_of bytes rows) d)))
      → PutBy (ok_or r refusal.Full) now (export_of o rows bytes n)
  put_rows h g r k b = is-done (λ (y : Res Done). PutBy (ok_or r refusal.Full) now (export_of y rows bytes n)) o T h (λ d s. put_done rows bytes n d g r now k (b d s))
