-- The marked examples of M-109, "Say who is touched", by computing the definition. cases/ has the sheets.
use Prim.Native.Nat.{ℕ}
use mathlib.Core.Path.{◌≡◌, refl}
use mathlib.Core.List.{List, [], ◌∷◌, map}
use Rattle.laws.specs.Lists.{keep, flat}
use Rattle.rules.specs.Answer.{Res}
use Rattle.rules.specs.Bytes.{bits}
use Rattle.rules.specs.Columns.{row_list, collected_list}
use Rattle.rules.specs.Outcome.{outcome, Done}
use Rattle.rules.proofs.Everything.{everything}
use Rattle.rules.proofs.Marked.{lent}
use Rattle.rules.proofs.Written.{words, whole, effect, type_effect, base, collection, buff, sheet_of}
use Rattle.promises.specs.NoMemory.{book_in, fit_in}
use Rattle.touched.specs.Named.{named}

-- ---- the sheets: each modifier is on an attribute of its own, so that a row of it is an object that is touched

-- kind, type, group, category, slot, first base attribute and count; quantity 1
abbrev thing : ℕ → ℕ → ℕ → ℕ → ℕ → ℕ → ℕ → List ℕ
thing kind type group category slot first count =
    words (kind ∷ type ∷ group ∷ category ∷ slot ∷ 1 ∷ 0 ∷ 0 ∷ 0 ∷ 0 ∷ 0 ∷ first ∷ count ∷ 0 ∷ 0 ∷ 0 ∷ 0 ∷ [])

-- func, domain, modified attribute, skill and group: ModAdd of attribute 20
abbrev adds : ℕ → ℕ → ℕ → ℕ → ℕ → List ℕ
adds func domain modified skill group = words (func ∷ domain ∷ 3 ∷ 20 ∷ modified ∷ skill ∷ group ∷ [])

-- skill -1
abbrev minus_one : ℕ
minus_one = 4294967295

-- a ship of type 8 whose 20 is added: to group 5 in its location, to all of its location, and to all of the char's; a mode, an item in the
-- ship, its charge and a drone are of the group
abbrev groups : List ℕ
groups =
    sheet_of 2 0 []
    (effect 1 0 0 0 3 ∷ [])
    (adds 1 1 41 0 5 ∷ adds 2 1 42 0 0 ∷ adds 2 2 43 0 0 ∷ [])
    (type_effect 8 1 ∷ [])
    []
    (thing 0 8 1 0 0 0 1 ∷ thing 1 0 5 0 0 0 0 ∷ thing 2 0 0 0 0 0 0 ∷ thing 3 9 5 7 3 0 0 ∷ thing 4 0 5 0 0 0 0 ∷ thing 3 11 5 18 7 0 0 ∷ [])
    (base 20 (whole 2) ∷ [])
    []
    []

-- to all of the char's location, to group 5 in it, and to what requires 7 on the char; an implant, its charge and a skill are of the group,
-- and both of the first require 7
abbrev char : List ℕ
char =
    sheet_of 2 0 []
    (effect 1 0 0 0 3 ∷ [])
    (adds 2 2 43 0 0 ∷ adds 1 2 44 0 5 ∷ adds 0 2 45 7 0 ∷ [])
    (type_effect 8 1 ∷ [])
    []
    (thing 0 8 1 0 0 0 1 ∷ thing 2 0 0 0 0 0 0 ∷ thing 3 12 5 20 10 1 1 ∷ thing 4 0 5 0 0 1 1 ∷ thing 5 7 5 16 0 0 0 ∷ [])
    (base 20 (whole 2) ∷ base 182 (whole 7) ∷ [])
    []
    []

-- by skill: the ship's of 7 as owner, of 7 in the ship; a module's, which requires 0, of 7 with itself as target; a buff's of -1; that of the
-- skill of type 7 of -1. Another module, its charge, a drone, and the charge of an item in no slot require 7
abbrev skills : List ℕ
skills =
    sheet_of 2 0 []
    (effect 1 0 0 0 2 ∷ effect 2 0 0 2 1 ∷ effect 3 0 0 3 1 ∷ [])
    (adds 3 2 46 7 0 ∷ adds 0 1 47 7 0 ∷ adds 0 0 48 7 0 ∷ adds 0 1 49 minus_one 0 ∷ adds 0 1 50 minus_one 0 ∷ [])
    (type_effect 7 3 ∷ type_effect 8 1 ∷ type_effect 10 2 ∷ [])
    (collection 30 3 4 1 ∷ [])
    (thing 0 8 1 0 0 0 1 ∷ thing 2 0 0 0 0 0 0 ∷ thing 3 10 0 7 3 2 1 ∷ thing 3 9 0 7 3 1 1 ∷ thing 4 0 0 0 0 1 1 ∷ thing 3 11 0 18 7 1 1 ∷ thing 3 13 0 7 0 0 0 ∷ thing 4 0 0 0 0 1 1 ∷ thing 5 7 0 16 0 0 0 ∷ [])
    (base 20 (whole 2) ∷ base 182 (whole 7) ∷ base 182 (whole 0) ∷ [])
    (buff 30 (whole 3) ∷ [])
    []

-- the ship's type has one effect twice
abbrev twice : List ℕ
twice =
    sheet_of 2 0 []
    (effect 1 0 0 0 1 ∷ [])
    (adds 2 1 42 0 0 ∷ [])
    (type_effect 8 1 ∷ type_effect 8 1 ∷ [])
    []
    (thing 0 8 1 0 0 0 1 ∷ thing 2 0 0 0 0 0 0 ∷ thing 3 9 0 7 3 0 0 ∷ [])
    (base 20 (whole 2) ∷ [])
    []
    []

-- ---- the theorem

-- the objects that each collected effect names
abbrev named_of : List ℕ → List (List ℕ)
named_of b = map (λ t. map (λ o. o.number) (keep (named (book_in b) (fit_in b) t) (fit_in b).objects)) (collected_list (outcome b lent))

-- object, attribute and number of each entry
abbrev entries_of : Res Done → List (List ℕ)
entries_of r = flat (λ x. map (λ e. x.object ∷ bits x.id ∷ e.number ∷ []) x.entries) (row_list r)

abbrev Touches : List ℕ → List (List ℕ) → List (List ℕ) → Type 0
Touches b objects entries = (named_of b ≡ objects) × (entries_of (outcome b lent) ≡ entries)

pub record Examples : Type 0 where
  -- group 5 in the ship: the item and its charge, not the mode, nor the drone; the ship's location: ship, item, charge; the char's: the char
  pub by_group :
      Touches groups ((3 ∷ 4 ∷ []) ∷ (0 ∷ 3 ∷ 4 ∷ []) ∷ (2 ∷ []) ∷ [])
      ((0 ∷ 42 ∷ 1 ∷ []) ∷ (2 ∷ 43 ∷ 2 ∷ []) ∷ (3 ∷ 41 ∷ 0 ∷ []) ∷ (3 ∷ 42 ∷ 1 ∷ []) ∷ (4 ∷ 41 ∷ 0 ∷ []) ∷ (4 ∷ 42 ∷ 1 ∷ []) ∷ [])
  -- the char's location: char, implant, skill; of group 5 implant and skill; that require 7 implant and charge
  pub on_char_lem :
      Touches char ((1 ∷ 2 ∷ 4 ∷ []) ∷ (2 ∷ 4 ∷ []) ∷ (2 ∷ 3 ∷ []) ∷ [])
      ((1 ∷ 43 ∷ 0 ∷ []) ∷ (2 ∷ 43 ∷ 0 ∷ []) ∷ (2 ∷ 44 ∷ 1 ∷ []) ∷ (2 ∷ 45 ∷ 2 ∷ []) ∷ (3 ∷ 45 ∷ 2 ∷ []) ∷ (4 ∷ 43 ∷ 0 ∷ []) ∷ (4 ∷ 44 ∷ 1 ∷ []) ∷ [])
  -- as owner: the drone and both charges, no module; in the ship, whatever the target: the module and its charge; a buff's -1 is type 0
  pub by_skill_lem :
      Touches skills ((4 ∷ 5 ∷ 7 ∷ []) ∷ (3 ∷ 4 ∷ []) ∷ (2 ∷ []) ∷ (3 ∷ 4 ∷ []) ∷ (3 ∷ 4 ∷ []) ∷ [])
      ((2 ∷ 50 ∷ 2 ∷ []) ∷ (3 ∷ 47 ∷ 1 ∷ []) ∷ (3 ∷ 48 ∷ 3 ∷ []) ∷ (3 ∷ 49 ∷ 4 ∷ []) ∷ (4 ∷ 46 ∷ 0 ∷ []) ∷ (4 ∷ 47 ∷ 1 ∷ []) ∷ (4 ∷ 48 ∷ 3 ∷ []) ∷ (4 ∷ 49 ∷ 4 ∷ []) ∷ (5 ∷ 46 ∷ 0 ∷ []) ∷ (7 ∷ 46 ∷ 0 ∷ []) ∷ [])
  -- two equal effects: each names both, an entry each, numbers 0 and 1
  pub two_equal :
      Touches twice ((0 ∷ 2 ∷ []) ∷ (0 ∷ 2 ∷ []) ∷ [])
      ((0 ∷ 42 ∷ 0 ∷ []) ∷ (0 ∷ 42 ∷ 1 ∷ []) ∷ (2 ∷ 42 ∷ 0 ∷ []) ∷ (2 ∷ 42 ∷ 1 ∷ []) ∷ [])

pub examples : Examples
unfolding everything named
examples = record { by_group = (refl, refl); on_char_lem = (refl, refl); by_skill_lem = (refl, refl); two_equal = (refl, refl) }
