-- The marked examples of M-110, "Entries keep their collection number", by computing the definition. cases/ has the sheets.
use Prim.Native.Nat.{ℕ}
use mathlib.Core.Path.{◌≡◌, refl}
use mathlib.Core.List.{List, [], ◌∷◌, map}
use lib.ListN.{get_or, take, replicate}
use Rattle.rules.specs.Answer.{Res, refused}
use Rattle.rules.specs.Columns.{rows_numbers, entry_numbers, entry_column, row_list, entry_list, sources_by_row}
use Rattle.rules.specs.Outcome.{outcome, Lent, Done}
use Rattle.rules.specs.declared.Refusal.TheVariants.{Room}
use Rattle.rules.proofs.Everything.{everything}
use Rattle.rules.proofs.Written.{whole, effect, modifier, type_effect, object, hull, fitted, base, collection, buff, sheet_of, sheet}
use Rattle.rules.proofs.Marked.{lent, Prints, case_l, looped}

-- of each row object, attribute, first and count of its entries
abbrev rows_of : Res Done → List (List ℕ)
rows_of r = map (take 4) (rows_numbers 0 0 (row_list r) (sources_by_row r))

-- of each entry its origin (0 effect, 1 buff), its source, and its collection number
abbrev entries_of : Res Done → List (List ℕ)
entries_of r = map (λ e. let n = entry_numbers e in get_or n 0 0 ∷ get_or n 2 0 ∷ get_or n 11 0 ∷ []) (entry_list r)

-- a sheet's rows and entries are these
abbrev Enters : List ℕ → List (List ℕ) → List (List ℕ) → Type 0
Enters b rows entries = (rows_of (outcome b lent) ≡ rows) × (entries_of (outcome b lent) ≡ entries)

-- ---- the sheets

-- a ship of type 8 with one base attribute
abbrev ship : List ℕ
ship = object 0 8 0 0 1 0 0 0 1

-- the ship adds its 20 to its own 5 twice, and then to its 4
abbrev twice_then_once : List ℕ
twice_then_once =
    sheet 2 []
    (effect 1 0 0 0 3 ∷ [])
    (modifier 4 0 3 20 5 0 ∷ modifier 4 0 3 20 5 0 ∷ modifier 4 0 3 20 4 0 ∷ [])
    (type_effect 8 1 ∷ [])
    (ship ∷ hull 2 0 0 0 ∷ [])
    (base 20 (whole 2) ∷ [])
    []

-- the ship adds its 20 to the 37 of all in its location: itself and two items
abbrev location : List ℕ
location =
    sheet 2 []
    (effect 1 0 0 0 1 ∷ [])
    (modifier 2 1 3 20 37 0 ∷ [])
    (type_effect 8 1 ∷ [])
    (ship ∷ hull 2 0 0 0 ∷ fitted 3 1 1 0 0 ∷ fitted 3 1 1 0 0 ∷ [])
    (base 20 (whole 2) ∷ [])
    []

-- the ship, a buff of 5 and an item each add to the ship's 37
abbrev buffed : List ℕ
buffed =
    sheet_of 2 0 []
    (effect 1 0 0 0 1 ∷ [])
    (modifier 4 1 3 20 37 0 ∷ [])
    (type_effect 8 1 ∷ type_effect 9 1 ∷ [])
    (collection 30 3 0 1 ∷ [])
    (ship ∷ hull 2 0 0 0 ∷ fitted 3 1 1 0 1 ∷ [])
    (base 20 (whole 2) ∷ [])
    (buff 30 (whole 5) ∷ [])
    []

-- the ship adds its 20 to its own 37, and to that of all in the char's location: the char, an implant and a skill
abbrev char_location : List ℕ
char_location =
    sheet 2 []
    (effect 1 0 0 0 2 ∷ [])
    (modifier 4 1 3 20 37 0 ∷ modifier 2 2 3 20 37 0 ∷ [])
    (type_effect 8 1 ∷ [])
    (ship ∷ hull 2 0 0 0 ∷ object 3 7 20 10 1 0 0 0 0 ∷ object 5 6 16 0 1 0 0 0 0 ∷ [])
    (base 20 (whole 2) ∷ [])
    []

-- document 01's loop, with its two modifiers in the other order
abbrev looped_over : List ℕ
looped_over =
    sheet 2 []
    (effect 1 0 0 0 2 ∷ [])
    (modifier 4 0 3 20 37 0 ∷ modifier 4 0 3 37 20 0 ∷ [])
    (type_effect 8 1 ∷ [])
    (hull 0 8 0 2 ∷ hull 2 0 0 0 ∷ [])
    (base 20 (whole 10) ∷ base 37 (whole 1) ∷ [])
    []

-- as `lent`, but one entry
abbrev one_entry : Lent
one_entry =
    record {
      collected = 4096;
      collected_values = 4096;
      rows = 4096;
      bases = 4096;
      values = 4096;
      entries = 1;
      entry_values = 1;
      plain = 4096;
      sources = 4096;
      source_floats = 4096;
    }

-- ---- the theorem

pub record Numbers : Type 0 where
  -- "Case L: list 3 is two entries on (0, 37), numbers 0 and 1; sources 2 and 3"
  pub case_l_lem : Enters (case_l 2 []) ((0 ∷ 37 ∷ 0 ∷ 2 ∷ []) ∷ (2 ∷ 20 ∷ 2 ∷ 0 ∷ []) ∷ (3 ∷ 20 ∷ 2 ∷ 0 ∷ []) ∷ []) ((0 ∷ 2 ∷ 0 ∷ []) ∷ (0 ∷ 3 ∷ 1 ∷ []) ∷ [])
  -- "Two effects on attribute 5, then one on 4": the entry on 4 stands first and has the last number
  pub twice_then_once_lem : Enters twice_then_once ((0 ∷ 4 ∷ 0 ∷ 1 ∷ []) ∷ (0 ∷ 5 ∷ 1 ∷ 2 ∷ []) ∷ (0 ∷ 20 ∷ 3 ∷ 0 ∷ []) ∷ []) ((0 ∷ 0 ∷ 2 ∷ []) ∷ (0 ∷ 0 ∷ 0 ∷ []) ∷ (0 ∷ 0 ∷ 1 ∷ []) ∷ [])
  -- "three entries, each with number 0, on three rows"
  pub in_location_lem : Enters location ((0 ∷ 20 ∷ 0 ∷ 0 ∷ []) ∷ (0 ∷ 37 ∷ 0 ∷ 1 ∷ []) ∷ (2 ∷ 37 ∷ 1 ∷ 1 ∷ []) ∷ (3 ∷ 37 ∷ 2 ∷ 1 ∷ []) ∷ []) ((0 ∷ 0 ∷ 0 ∷ []) ∷ (0 ∷ 0 ∷ 0 ∷ []) ∷ (0 ∷ 0 ∷ 0 ∷ []) ∷ [])
  -- "A buff collected between ship and items: its entry has the number in between, origin 1"
  pub by_buff : Enters buffed ((0 ∷ 20 ∷ 0 ∷ 0 ∷ []) ∷ (0 ∷ 37 ∷ 0 ∷ 3 ∷ []) ∷ (2 ∷ 20 ∷ 3 ∷ 0 ∷ []) ∷ []) ((0 ∷ 0 ∷ 0 ∷ []) ∷ (1 ∷ 0 ∷ 1 ∷ []) ∷ (0 ∷ 2 ∷ 2 ∷ []) ∷ [])
  -- "char, skills, implants: all number j, although implants arrive last"
  pub char_location_lem : Enters char_location ((0 ∷ 20 ∷ 0 ∷ 0 ∷ []) ∷ (0 ∷ 37 ∷ 0 ∷ 1 ∷ []) ∷ (1 ∷ 37 ∷ 1 ∷ 1 ∷ []) ∷ (2 ∷ 37 ∷ 2 ∷ 1 ∷ []) ∷ (3 ∷ 37 ∷ 3 ∷ 1 ∷ []) ∷ []) ((0 ∷ 0 ∷ 0 ∷ []) ∷ (0 ∷ 0 ∷ 1 ∷ []) ∷ (0 ∷ 0 ∷ 1 ∷ []) ∷ (0 ∷ 0 ∷ 1 ∷ []) ∷ [])
  -- "Case L with one entry lent: refused 7 3, twelve zeros"
  pub one_entry_lem : outcome (case_l 2 []) one_entry ≡ refused (Room 3)
  pub zeros : entry_column (outcome (case_l 2 []) one_entry) 1 ≡ replicate 12 0 ∷ []
  -- "A's entry number 0 or 1 by the order of modifiers; values 21 and 11 as before"
  pub loop : Enters (looped []) ((0 ∷ 20 ∷ 0 ∷ 1 ∷ []) ∷ (0 ∷ 37 ∷ 1 ∷ 1 ∷ []) ∷ []) ((0 ∷ 0 ∷ 0 ∷ []) ∷ (0 ∷ 0 ∷ 1 ∷ []) ∷ [])
  pub loop-over : Enters looped_over ((0 ∷ 20 ∷ 0 ∷ 1 ∷ []) ∷ (0 ∷ 37 ∷ 1 ∷ 1 ∷ []) ∷ []) ((0 ∷ 0 ∷ 1 ∷ []) ∷ (0 ∷ 0 ∷ 0 ∷ []) ∷ [])
  pub loop_values : Prints looped_over "rows 2\n0 20 21.00\n0 37 11.00\n"

pub numbers : Numbers
unfolding everything
numbers =
    record {
      case_l_lem = (refl, refl);
      twice_then_once_lem = (refl, refl);
      in_location_lem = (refl, refl);
      by_buff = (refl, refl);
      char_location_lem = (refl, refl);
      one_entry_lem = refl;
      zeros = refl;
      loop = (refl, refl);
      loop-over = (refl, refl);
      loop_values = refl;
    }
