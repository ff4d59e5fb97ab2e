-- The marked examples of M-112, over case L, by computation. The files of cases/ are the same.
use Prim.Native.Nat.{ℕ}
use mathlib.Core.Path.{◌≡◌, refl}
use mathlib.Core.List.{List, [], ◌∷◌}
use lib.ListN.{replicate}
use Rattle.rules.specs.Listing.{ascii}
use Rattle.rules.specs.Outcome.{Lent, outcome}
use Rattle.rules.proofs.Everything.{everything}
use Rattle.rules.proofs.Marked.{lent, case_l}
use Rattle.rules.proofs.Written.{sheet, hull}
use Rattle.csv_text.specs.Csv.{class_of, doubled, field, record_text}
use Rattle.csv_text.specs.Labels.{label_good, bad_from, row_records, export_of, number_of, place_of, text_of}

-- of a run of a sheet, by labels, their bytes, and the bytes lent: number, place and text
abbrev GivesOf : Lent → List ℕ → List (List ℕ) → List ℕ → ℕ → ℕ → ℕ → List ℕ → Type 0
GivesOf l b labels bytes n number place text =
    let x = export_of (outcome b l) labels bytes n in
    (number_of x ≡ number) × ((place_of x ≡ place) × (text_of x ≡ text))

abbrev Gives : List (List ℕ) → List ℕ → ℕ → ℕ → ℕ → List ℕ → Type 0
Gives = GivesOf lent (case_l 2 [])

abbrev label : ℕ → ℕ → ℕ → List ℕ
label i first count = i ∷ first ∷ count ∷ []

-- two rows lent
abbrev two : Lent
two =
    record {
      collected = 9;
      collected_values = 9;
      rows = 2;
      bases = 9;
      values = 9;
      entries = 9;
      entry_values = 9;
      plain = 9;
      sources = 9;
      source_floats = 9;
    }

abbrev plain : List ℕ
plain = ascii "object,attribute,label,value\r\n0,37,,430.37\r\n2,20,,50.00\r\n3,20,,50.00\r\n"

-- a ship and a char, and nothing else
abbrev bare : List ℕ
bare = sheet 2 [] [] [] [] (hull 0 0 0 0 ∷ hull 2 0 0 0 ∷ []) [] []

pub record Examples : Type 0 where
  pub no_labels : Gives [] [] 70 0 0 plain
  pub no_room : Gives [] [] 69 7 8 []
  pub quoted : Gives (label 20 0 8 ∷ label 37 8 9 ∷ []) (ascii "Bonus, %Hull \"HP\"") 200 0 0
      (ascii "object,attribute,label,value\r\n0,37,\"Hull \"\"HP\"\"\",430.37\r\n2,20,\"Bonus, %\",50.00\r\n3,20,\"Bonus, %\",50.00\r\n")
  pub cr_alone : Gives (label 20 0 1 ∷ []) (13 ∷ []) 200 0 0
      (ascii "object,attribute,label,value\r\n0,37,,430.37\r\n2,20,\"\r\",50.00\r\n3,20,\"\r\",50.00\r\n")
  pub twice : Gives (label 20 0 1 ∷ label 20 0 1 ∷ []) (ascii "x") 200 16 1 []
  pub descending : Gives (label 37 0 1 ∷ label 20 0 1 ∷ []) (ascii "x") 200 16 1 []
  pub just_64 : Gives (label 99 0 64 ∷ []) (replicate 64 120) 200 0 0 plain
  pub over_64 : Gives (label 20 0 65 ∷ []) (replicate 65 120) 200 16 0 []
  pub delete : Gives (label 20 0 1 ∷ []) (127 ∷ []) 200 16 0 []
  pub outside : Gives (label 20 5 1 ∷ []) (ascii "12345") 200 16 0 []
  pub depth_first : GivesOf lent (case_l 1 []) (label 20 5 1 ∷ []) [] 200 9 2 []
  pub room_first : GivesOf two (case_l 2 []) (label 20 5 1 ∷ []) [] 200 7 2 []
  pub no_rows : GivesOf lent bare [] [] 30 0 0 (ascii "object,attribute,label,value\r\n")
  pub no_room_for_it : GivesOf lent bare [] [] 29 7 8 []

pub examples : Examples
unfolding everything class_of doubled field record_text label_good bad_from row_records export_of
examples =
    record {
      no_labels = (refl, (refl, refl));
      no_room = (refl, (refl, refl));
      quoted = (refl, (refl, refl));
      cr_alone = (refl, (refl, refl));
      twice = (refl, (refl, refl));
      descending = (refl, (refl, refl));
      just_64 = (refl, (refl, refl));
      over_64 = (refl, (refl, refl));
      delete = (refl, (refl, refl));
      outside = (refl, (refl, refl));
      depth_first = (refl, (refl, refl));
      room_first = (refl, (refl, refl));
      no_rows = (refl, (refl, refl));
      no_room_for_it = (refl, (refl, refl));
    }
