-- The marked examples of M-104, "Grey rows should name the state they need", by computing the definition. cases/ has the sheets.
use Prim.Native.Nat.{ℕ}
use mathlib.Core.Path.{◌≡◌, refl}
use mathlib.Core.List.{List, [], ◌∷◌, map}
use lib.ListN.{get_or}
use Rattle.rules.specs.Answer.{Res}
use Rattle.rules.specs.Columns.{source_numbers, source_list, state_list}
use Rattle.rules.specs.Outcome.{outcome, Done}
use Rattle.rules.proofs.Everything.{everything}
use Rattle.rules.proofs.Written.{whole, attribute, effect, modifier, type_effect, object, hull, fitted, base, collection, buff, sheet_of}
use Rattle.rules.proofs.Marked.{lent, Prints, case_l}
use Rattle.rules.proofs.Loops.{recorded}

-- of each source row what it is from (0 object, 1 buff) and which, its quantity, whether it applies, and the state
abbrev shown_of : Res Done → List (List ℕ)
shown_of r = map (λ s. let n = source_numbers s in get_or n 0 0 ∷ get_or n 1 0 ∷ get_or n 7 0 ∷ get_or n 9 0 ∷ get_or n 10 0 ∷ []) (source_list r)

-- a sheet's source rows are these
abbrev Shows : List ℕ → List (List ℕ) → Type 0
Shows b rows = shown_of (outcome b lent) ≡ rows

-- of each object its state and max state
abbrev states_in : List ℕ → List (List ℕ)
states_in b = map (λ s. s.state ∷ s.max_state ∷ []) (state_list (outcome b lent))

-- ---- the sheets, all with recording

-- case L, its two items in a state
abbrev grey_l : ℕ → List ℕ
grey_l state =
    sheet_of 2 1
    (attribute 20 2 0 0 0 ∷ attribute 37 2 0 0 0 ∷ [])
    (effect 1 1 0 0 1 ∷ [])
    (modifier 4 1 7 20 37 0 ∷ [])
    (type_effect 9 1 ∷ [])
    []
    (hull 0 0 0 1 ∷ hull 2 0 0 0 ∷ fitted 3 1 state 1 1 ∷ fitted 3 1 state 1 1 ∷ [])
    (base 37 (whole 200) ∷ base 20 (whole 50) ∷ [])
    []
    []

-- a projected object in a state adds its 20 to the ship's 37 by a Target effect
abbrev projected_target : ℕ → List ℕ
projected_target state =
    sheet_of 2 1 []
    (effect 1 4 0 0 1 ∷ [])
    (modifier 4 5 3 20 37 0 ∷ [])
    []
    []
    (hull 0 0 0 1 ∷ hull 2 0 0 0 ∷ object 6 0 0 0 1 state 1 1 1 ∷ [])
    (base 37 (whole 2) ∷ base 20 (whole 5) ∷ [])
    []
    []

-- a module of category 7 adds its 20 by an effect of a category: an offline rig to the ship's 37 and 1152, an Active one in a high slot to its 37
abbrev rig : List ℕ
rig =
    sheet_of 2 1 []
    (effect 1 0 0 0 2 ∷ [])
    (modifier 4 1 3 20 37 0 ∷ modifier 4 1 3 20 1152 0 ∷ [])
    (type_effect 9 1 ∷ [])
    []
    (hull 0 0 0 2 ∷ hull 2 0 0 0 ∷ fitted 4 1 0 2 1 ∷ [])
    (base 37 (whole 2) ∷ base 1152 (whole 10) ∷ base 20 (whole 5) ∷ [])
    []
    []

abbrev overload : List ℕ
overload =
    sheet_of 2 1 []
    (effect 1 3 0 0 1 ∷ [])
    (modifier 4 1 3 20 37 0 ∷ [])
    (type_effect 9 1 ∷ [])
    []
    (hull 0 0 0 1 ∷ hull 2 0 0 0 ∷ fitted 1 1 2 1 1 ∷ [])
    (base 37 (whole 2) ∷ base 20 (whole 5) ∷ [])
    []
    []

-- a buff adds 5 to the ship's 37
abbrev buffed : List ℕ
buffed =
    sheet_of 2 1 [] []
    (modifier 4 1 3 20 37 0 ∷ [])
    []
    (collection 30 3 0 1 ∷ [])
    (hull 0 0 0 1 ∷ hull 2 0 0 0 ∷ [])
    (base 37 (whole 2) ∷ [])
    (buff 30 (whole 5) ∷ [])
    []

-- twelve Online items of 50 % on the ship's 37, stacking penalised
abbrev twelve : List ℕ
twelve =
    sheet_of 2 1
    (attribute 20 2 0 0 0 ∷ attribute 37 2 0 0 0 ∷ [])
    (effect 1 1 0 0 1 ∷ [])
    (modifier 4 1 7 20 37 0 ∷ [])
    (type_effect 9 1 ∷ [])
    []
    (hull 0 0 0 1 ∷ hull 2 0 0 0 ∷ fitted 3 12 1 1 1 ∷ [])
    (base 37 (whole 200) ∷ base 20 (whole 50) ∷ [])
    []
    []

-- an item that an effect without modifiers lets be Online, with a Target effect on the ship's 37
abbrev unreachable : List ℕ
unreachable =
    sheet_of 2 1 []
    (effect 1 4 0 0 1 ∷ effect 2 1 0 1 0 ∷ [])
    (modifier 4 1 3 20 37 0 ∷ [])
    (type_effect 9 1 ∷ type_effect 9 2 ∷ [])
    []
    (hull 0 0 0 1 ∷ hull 2 0 0 0 ∷ fitted 1 1 1 1 1 ∷ [])
    (base 37 (whole 2) ∷ base 20 (whole 5) ∷ [])
    []
    []

-- ---- the theorem

-- a row from object o, or a buff
abbrev by : ℕ → ℕ → ℕ → ℕ → List ℕ
by o quantity applied state = 0 ∷ o ∷ quantity ∷ applied ∷ state ∷ []

pub record Grey : Type 0 where
  -- "Case L recorded, both items Online: two rows, applied 1, state 1"
  pub case_l_lem : recorded (case_l 2 []) ≡ grey_l 1
  pub online : Shows (grey_l 1) (by 2 1 1 1 ∷ by 3 1 1 1 ∷ [])
  -- "two grey rows, applied 0, state 1, value 200 as base"
  pub passive : Shows (grey_l 0) (by 2 1 0 1 ∷ by 3 1 0 1 ∷ [])
  pub passive_value : Prints (grey_l 0) "rows 3\n0 37 200.00\n2 20 50.00\n3 20 50.00\n"
  -- "Projected object of state 0 with a Target effect on the ship: grey, state 2. The same of state 2: runs, state 2"
  pub target_passive : Shows (projected_target 0) (by 2 1 0 2 ∷ [])
  pub target_active : Shows (projected_target 2) (by 2 1 1 2 ∷ [])
  -- "A rig's Passive effect, rig in state 0: grey, state 1; its modifier on 1152: runs, state 0"
  pub offline_rig : Shows rig (by 2 1 0 1 ∷ by 2 1 1 0 ∷ [])
  -- "Overload effect on an Active module of max state Overload: grey, state 3"
  pub not_overloaded : Shows overload (by 2 1 0 3 ∷ [])
  pub overload_states : states_in overload ≡ (0 ∷ 0 ∷ []) ∷ (0 ∷ 0 ∷ []) ∷ (2 ∷ 3 ∷ []) ∷ []
  -- "A buff: applied 1, state 0, from 1"
  pub by_buff : Shows buffed ((1 ∷ 30 ∷ 1 ∷ 1 ∷ 0 ∷ []) ∷ [])
  -- "eight rows of quantity 1 and one of 4, each state 1"
  pub each_copy : Shows twelve (by 2 1 1 1 ∷ by 2 1 1 1 ∷ by 2 1 1 1 ∷ by 2 1 1 1 ∷ by 2 1 1 1 ∷ by 2 1 1 1 ∷ by 2 1 1 1 ∷ by 2 1 1 1 ∷ by 2 4 1 1 ∷ [])
  -- "A Target effect on an item of max state Online: grey, state 2, which the item cannot reach (max state column: 1)"
  pub not_reached : Shows unreachable (by 2 1 0 2 ∷ [])
  pub not_reached_states : states_in unreachable ≡ (0 ∷ 0 ∷ []) ∷ (0 ∷ 0 ∷ []) ∷ (1 ∷ 1 ∷ []) ∷ []

pub grey : Grey
unfolding everything
grey =
    record {
      case_l_lem = refl;
      online = refl;
      passive = refl;
      passive_value = refl;
      target_passive = refl;
      target_active = refl;
      offline_rig = refl;
      not_overloaded = refl;
      overload_states = refl;
      by_buff = refl;
      each_copy = refl;
      not_reached = refl;
      not_reached_states = refl;
    }
