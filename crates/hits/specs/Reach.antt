-- What of an object decides who is touched: its columns and the skills that it requires. Definitions only.
use Rattle.std.specs.Prelude.{ℕ, suc, ◌<◌, ◌≡◌, ◌&&◌, ◌||◌, cond, List, [], ◌∷◌, map, ℤ, length, get_or, Some, None}
use Rattle.std.specs.Prelude as found
use Rattle.std.specs.Option.{option_map}
use Rattle.std.proofs.Math.Option.{Option, none, some}
use Rattle.laws.specs.Lists.{eq_z}
use Rattle.rules.specs.Bytes.{bits}
use Rattle.rules.specs.Constants.{attribute_skills}
use Rattle.rules.specs.Sheet.{Book, Fit}
use Rattle.rules.specs.Info.{get_base}
use Rattle.rules.specs.Number.{cut}
use Rattle.rules.specs.Item.{object, is_ship, is_char, is_item, is_charge, is_skill, is_in_ship, is_on_char, is_owner_modifiable}
use Rattle.rules.specs.Dispatch.{carrier}
use Rattle.rules.specs.Columns.{yes1}
use Rattle.rules.specs.declared.Item.{Item}
use Rattle.rules.specs.declared.BaseAttribute.{BaseAttribute}
use Rattle.info.specs.Stands.{is_fitted}

-- above every 32 bits
abbrev pub no_skill : ℕ
no_skill = 4294967296

abbrev pub skill_bits : Option BaseAttribute → ℕ
skill_bits none = no_skill
skill_bits (some r) = bits (cut r.value)

-- the bits of the skills that an object requires, by `attribute_skills`
unfoldable pub required_bits : Fit → Item → List ℕ
required_bits f o = map (λ a. skill_bits (get_base f o a)) attribute_skills

-- the place of a in a list
abbrev pub place_of : ℤ → List ℤ → found.Option ℕ
place_of a [] = None
place_of a (x ∷ r) = cond (eq_z a x) (Some 0) (option_map suc (place_of a r))

-- the place of the skill that an attribute names
unfoldable pub slot_of : ℤ → found.Option ℕ
slot_of a = place_of a attribute_skills

-- the columns: in the ship's location; in the char's, without its items; its items; items and charges in the ship, on the char, owned; all; the group
unfoldable pub reach_of : Book → Fit → Item → List ℕ
reach_of k f o =
    yes1 (is_ship o || is_fitted o && is_in_ship k (carrier f o)) ∷ yes1 (is_char o || is_skill o) ∷ yes1 (is_item o && is_on_char o)
    ∷ yes1 (is_fitted o && is_in_ship k (carrier f o)) ∷ yes1 (is_fitted o && is_on_char (carrier f o))
    ∷ yes1 (is_charge o || is_item o && is_owner_modifiable o) ∷ 1 ∷ bits o.group_id ∷ []

-- rows of a table that are those of the objects
abbrev pub TableOf : (Item → List ℕ) → Fit → List (List ℕ) → Type 0
TableOf g f rows = (i : ℕ) → i < length f.objects → get_or rows i [] ≡ g (object f i)
