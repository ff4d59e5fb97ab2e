-- What the code puts and gives back. Definitions only.
use Rattle.std.specs.Prelude.{ℕ, zero, suc, ◌+◌, ◌≤◌, ◌<◌, ◌≡◌, List, [], ℤ, length, get_or, Result, Ok, Err, MatchResult}
use Rattle.std.specs.Prelude as code
use Rattle.std.proofs.Math.Option.{Option, none, some}
use Rattle.laws.specs.Columns.{column}
use Rattle.columns.specs.Lending.{LentColumn}
use Rattle.listing.specs.Put.{put, puts, Begins}
use Rattle.rules.specs.Answer.{number, place, Refused}
use Rattle.rules.specs.declared.Refusal.{Refusal}
use Rattle.csv_text.specs.Labels.{id_of, Export, number_of, place_of, text_of}
use Rattle.csv_text.specs.declared.labels.BadLabel.{BadLabel}
use Rattle.csv_text.specs.declared.ExportRefusal.{ExportRefusal}
use Rattle.csv_text.specs.declared.ExportRefusal.TheVariants as refusal

-- the first bad label
abbrev pub bad_label : Result Unit BadLabel → Option ℕ
bad_label (Ok x) = none
bad_label (Err b) = some b.label

-- the id of the label before label i
abbrev pub id_before : List (List ℕ) → ℕ → Option ℤ
id_before rows zero = none
id_before rows (suc i) = some (id_of (get_or rows i []))

-- these bytes were put at a place of a text and end inside it; or they do not fit
abbrev pub AddedOr : code.Option ℕ → List ℕ → List ℕ → ℕ → List ℕ → Type 0
AddedOr (code.Some end) text₀ text at bytes = (put end text ≡ puts bytes (put at text₀)) × (end ≤ length text)
AddedOr code.None text₀ text at bytes = length text < at + length bytes

-- the text begins with these bytes; or they do not fit
abbrev pub BeginsOr : code.Option ℕ → List ℕ → List ℕ → Type 0
BeginsOr (code.Some end) text bytes = Begins text end bytes
BeginsOr code.None text bytes = length text < length bytes

-- number and place as document 01 has them
abbrev pub number_in : ExportRefusal → ℕ
number_in (refusal.Engine n p) = n
number_in (refusal.Label i) = 16
number_in refusal.Full = 7

abbrev pub place_in : ExportRefusal → ℕ
place_in (refusal.Engine n p) = p
place_in (refusal.Label i) = i
place_in refusal.Full = 8

-- what is said to be the engine's is one of its refusals
abbrev pub IsRefused : ExportRefusal → Type 0
IsRefused (refusal.Engine n p) = (y : Refusal) × (n ≡ number (Refused y)) × (p ≡ place (Refused y))
IsRefused (refusal.Label i) = Unit
IsRefused refusal.Full = Unit

-- number and place, and how many bytes the text has
pub record Told : Type 0 where
  pub number : ℕ
  pub place : ℕ
  pub length : ℕ

abbrev pub told_of : Result ℕ ExportRefusal → Told
told_of (Ok end) = record { number = 0; place = 0; length = end }
told_of (Err e) = record { number = number_in e; place = place_in e; length = 0 }

-- what is told of what is given
abbrev pub told_by : Export → Told
told_by x = record { number = number_of x; place = place_of x; length = length (text_of x) }

-- the answer, and where there is a text, the bytes begin with it
abbrev pub PutBy : Result ℕ ExportRefusal → List ℕ → Export → Type 0
PutBy r now x = (told_of r ≡ told_by x) × MatchResult r (λ end. Begins now end (text_of x)) (λ e. text_of x ≡ [])

abbrev pub Puts : Result ℕ ExportRefusal → LentColumn ℕ → (ℕ → Export) → Type 0
Puts r out x = PutBy r out.exit.now (x (length out.entry.now))

-- the answer, and the lent bytes: the text, then zeros; by what is given where so many bytes are lent
abbrev pub Gives : LentColumn ℕ → Told → (ℕ → Export) → Type 0
Gives out r x =
    let n = length out.entry.now in
    (r ≡ told_by (x n)) × (out.exit.now ≡ column (λ b. b) 0 (text_of (x n)) n)
