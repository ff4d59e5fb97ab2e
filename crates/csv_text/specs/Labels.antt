-- M-112: an organiser's labels, and a run's rows as comma-separated text. Definitions only.
use Rattle.std.specs.Prelude.{ℕ, suc, ◌+◌, Bool, true, false, ◌&&◌, ◌||◌, List, [], ◌∷◌, map, eqb, leb, Float, ℤ, length, get_or}
use Rattle.std.proofs.Math.Option.{Option, none, some}
use Rattle.std.specs.Int.Signed.{lt_z}
use Rattle.laws.specs.Lists.{eq_z, every?, first, span}
use Rattle.rules.specs.Answer.{Res, ok, refused, number, place}
use Rattle.rules.specs.Bytes.{signed}
use Rattle.rules.specs.Columns.{value_list}
use Rattle.rules.specs.Dispatch.{Row}
use Rattle.rules.specs.Listing.{ascii, natural, integer, decimals}
use Rattle.rules.specs.Number.{hundredths_of}
use Rattle.rules.specs.Outcome.{Done}
use Rattle.rules.specs.Answer.{Refused}
use Rattle.rules.specs.declared.Refusal.{Refusal}
use Rattle.csv_text.specs.Csv.{csv}

-- ---- the lent table

-- "a label from a lent table of labels": a row has an id, and where its bytes begin among the bytes lent and how many they are
abbrev pub id_of : List ℕ → ℤ
id_of r = signed (get_or r 0 0)

abbrev pub first_of : List ℕ → ℕ
first_of r = get_or r 1 0

abbrev pub count_of : List ℕ → ℕ
count_of r = get_or r 2 0

abbrev pub bytes_of : List ℕ → List ℕ → List ℕ
bytes_of bytes r = span (first_of r) (count_of r) bytes

-- "printable ASCII", "CR or LF"
abbrev pub allowed : ℕ → Bool
allowed b = (leb 32 b && leb b 126) || (eqb b 13 || eqb b 10)

-- not "a label over 64 bytes", nor "one with a byte that is neither printable ASCII nor CR or LF"; 01: "A pointer that leads outside is
-- charged to the table that holds it"
unfoldable pub label_good : List ℕ → List ℕ → Bool
label_good bytes r = leb (count_of r) 64 && (leb (first_of r + count_of r) (length bytes) && every? allowed (bytes_of bytes r))

-- not "an id that does not ascend strictly"
abbrev pub stands_after : Option ℤ → ℤ → Bool
stands_after none i = true
stands_after (some a) i = lt_z a i

-- "place: first such label": from label n on, after the last id
unfoldable pub bad_from : List ℕ → ℕ → Option ℤ → List (List ℕ) → Option ℕ
bad_from bytes n last [] = none
bad_from bytes n last (r ∷ rs) =
    elim (stands_after last (id_of r) && label_good bytes r) [ false ↦ some n | true ↦ bad_from bytes (suc n) (some (id_of r)) rs ]

abbrev pub label_bad : List ℕ → List (List ℕ) → Option ℕ
label_bad bytes rows = bad_from bytes 0 none rows

-- ---- the records

pub record Label : Type 0 where
  pub id : ℤ
  pub text : List ℕ

abbrev pub labels_of : List ℕ → List (List ℕ) → List Label
labels_of bytes = map (λ r. record { id = id_of r; text = bytes_of bytes r })

-- "An attribute without a label has an empty field"
abbrev pub text_or : Option Label → List ℕ
text_or none = []
text_or (some l) = l.text

abbrev pub label_of : List Label → ℤ → List ℕ
label_of ls a = text_or (first (λ l. eq_z l.id a) ls)

-- "object, attribute, a label .., value as in M-101"
abbrev pub fields_of : List Label → ℕ → ℤ → Float → List (List ℕ)
fields_of ls o a v = natural o ∷ integer a ∷ label_of ls a ∷ decimals (hundredths_of v) ∷ []

-- "header record `object,attribute,label,value`"
abbrev pub header : List (List ℕ)
header = ascii "object" ∷ ascii "attribute" ∷ ascii "label" ∷ ascii "value" ∷ []

-- "rows as comma-separated text": a record for each
unfoldable pub row_records : List Label → List Row → List Float → List (List (List ℕ))
row_records ls [] vs = []
row_records ls (r ∷ rs) [] = []
row_records ls (r ∷ rs) (v ∷ vs) = fields_of ls r.object r.id v ∷ row_records ls rs vs

abbrev pub records : List Label → Done → List (List (List ℕ))
records ls d = header ∷ row_records ls d.rows (value_list (ok d))

-- ---- what is given

-- what is done with its text, the engine's refusal, a bad label, or a text that is longer than the bytes lent
pub data Export : Type 0 where
  text : Done → List ℕ → Export
  engine : Refusal → Export
  label : ℕ → Export
  full : Export

abbrev pub fitted : Bool → Done → List ℕ → Export
fitted true d t = text d t
fitted false d t = full

abbrev pub labelled : Option ℕ → Done → List ℕ → ℕ → Export
labelled (some i) d t n = label i
labelled none d t n = fitted (leb (length t) n) d t

-- "Refusals: the engine's; 16 LABEL ..; then ROOM with list 8": of a run, the labels, their bytes, and how many bytes are lent
unfoldable pub export_of : Res Done → List (List ℕ) → List ℕ → ℕ → Export
export_of (refused x) rows bytes n = engine x
export_of (ok d) rows bytes n = labelled (label_bad bytes rows) d (csv (records (labels_of bytes rows) d)) n

abbrev pub number_of : Export → ℕ
number_of (text d t) = 0
number_of (engine x) = number (Refused x)
number_of (label i) = 16
number_of full = 7

abbrev pub place_of : Export → ℕ
place_of (text d t) = 0
place_of (engine x) = place (Refused x)
place_of (label i) = i
place_of full = 8

-- "The lent bytes are then zero": no text after a refusal
abbrev pub text_of : Export → List ℕ
text_of (text d t) = t
text_of (engine x) = []
text_of (label i) = []
text_of full = []
