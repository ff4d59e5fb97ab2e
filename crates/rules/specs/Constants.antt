-- The constants of `attribute_ids.rs`, `mod.rs` and `pass_2.rs`, and the codes of kinds and slots. 01, "The sheet".
use Rattle.std.specs.Prelude.{ℕ, List, [], ◌∷◌, ℤ, pos}

abbrev pub capacitor_need : ℤ
capacitor_need = pos 6

-- "Resetting a rig's Passive on attribute 1152 to Online as well" is a slip
abbrev pub upgrade_load : ℤ
upgrade_load = pos 1152

-- "Attribute 2138 at 0.9, the effect's own resistance 0: none"
abbrev pub remote_resistance : ℤ
remote_resistance = pos 2138

-- requiredSkill1, requiredSkill2, ..
abbrev pub attribute_skills : List ℤ
attribute_skills = pos 182 ∷ pos 183 ∷ pos 184 ∷ pos 1285 ∷ pos 1289 ∷ pos 1290 ∷ []

abbrev pub category_drone : ℤ
category_drone = pos 18

abbrev pub category_implant : ℤ
category_implant = pos 20

abbrev pub category_fighter : ℤ
category_fighter = pos 87

abbrev pub category_structure : ℤ
category_structure = pos 65

-- `EXEMPT_PENALTY_CATEGORY_IDS`
abbrev pub exempt_categories : List ℤ
exempt_categories = pos 6 ∷ pos 8 ∷ pos 16 ∷ pos 20 ∷ pos 32 ∷ pos 65 ∷ []
