-- Document 01, "Slips that look right": for each a small sheet on which the definition gives something else than the slip.
-- must-fail/ has the four slips as edits of the definition, which this theorem refuses.
use mathlib.Core.List.{List, [], ◌∷◌}
use Prim.Native.Nat.{ℕ}
use mathlib.Core.Path.{◌≡◌, refl}
use Rattle.rules.proofs.Everything.{everything}
use Rattle.rules.proofs.Written.{whole, attribute, effect, modifier, type_effect, object, hull, fitted, base, sheet}
use Rattle.rules.proofs.Marked.{Prints}

-- the char and a projected object each have a 20 with 37 as its least, and one calculation may not need another
abbrev pub walked : List ℕ
walked =
    sheet 1 (attribute 20 0 0 37 0 ∷ []) [] [] []
    (hull 0 0 0 0 ∷ hull 2 0 0 2 ∷ object 6 0 0 0 1 0 0 0 2 ∷ [])
    (base 20 (whole 4) ∷ base 37 (whole 5) ∷ [])
    []

-- the ship adds 5 to 37 of all in its location; its mode has a 37
abbrev pub moded : List ℕ
moded =
    sheet 2 [] (effect 1 0 0 0 1 ∷ []) (modifier 2 1 3 20 37 0 ∷ []) (type_effect 8 1 ∷ [])
    (object 0 8 0 0 1 0 0 0 1 ∷ hull 1 0 1 1 ∷ hull 2 0 0 0 ∷ [])
    (base 20 (whole 5) ∷ base 37 (whole 10) ∷ [])
    []

-- the ship adds 5 to 182 of all in its location, and then to 37 of whatever in it requires type 0; an item has a 37
abbrev pub rebuilt : List ℕ
rebuilt =
    sheet 2 [] (effect 1 0 0 0 2 ∷ []) (modifier 2 1 3 20 182 0 ∷ modifier 0 1 3 20 37 0 ∷ []) (type_effect 8 1 ∷ [])
    (object 0 8 0 0 1 0 0 0 1 ∷ hull 2 0 0 0 ∷ fitted 3 1 1 1 1 ∷ [])
    (base 20 (whole 5) ∷ base 37 (whole 1) ∷ [])
    []

-- an offline rig adds 5 to the ship's 1152, by a Passive effect
abbrev pub rigged : List ℕ
rigged =
    sheet 2 [] (effect 1 0 0 0 1 ∷ []) (modifier 4 1 3 20 1152 0 ∷ []) (type_effect 9 1 ∷ [])
    (hull 0 0 0 1 ∷ hull 2 0 0 0 ∷ fitted 4 1 0 1 1 ∷ [])
    (base 1152 (whole 10) ∷ base 20 (whole 5) ∷ [])
    []

pub record Slips : Type 0 where
  -- "Walking values in collection order" would meet the char first
  pub walk : Prints walked "refused 9 2\n"
  -- "Putting the ship's mode among its location's objects" would give 15.00
  pub mode : Prints moded "rows 3\n0 20 5.00\n0 37 5.00\n1 37 10.00\n"
  -- "Rebuilding skills while dispatching" would give the item's 37 as 6.00
  pub skills : Prints rebuilt "rows 4\n0 20 5.00\n0 182 5.00\n2 37 1.00\n2 182 5.00\n"
  -- "Resetting a rig's Passive on attribute 1152 to Online as well" would leave 10.00
  pub rig : Prints rigged "rows 2\n0 1152 15.00\n2 20 5.00\n"

pub slips : Slips
unfolding everything
slips = record { walk = refl; mode = refl; skills = refl; rig = refl }
