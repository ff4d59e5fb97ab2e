-- Whom a collected effect names, by kind, slot, category, group and skills: nothing here knows of dispatch. 02, M-109. Definitions only.
use Rattle.std.specs.Prelude.{ℕ, Bool, ◌&&◌, ◌||◌, cond, List, map, ℤ, pos, negsuc, eqb}
use Rattle.laws.specs.Lists.{eq_z, some?, keep}
use Rattle.rules.specs.Constants.{attribute_skills}
use Rattle.rules.specs.Sheet.{Book, Fit, bases_of}
use Rattle.rules.specs.Number.{cut}
use Rattle.rules.specs.Item.{object, item_of, is_ship, is_char, is_item, is_charge, is_skill, is_in_ship, is_on_char, is_owner_modifiable}
use Rattle.rules.specs.declared.Item.{Item}
use Rattle.rules.specs.declared.Origin.{Origin}
use Rattle.rules.specs.declared.Origin.TheVariants as origin
use Rattle.rules.specs.declared.Modifier.{Modifier}
use Rattle.rules.specs.declared.Modifier.TheVariants.{LocationRequiredSkillModifier, LocationGroupModifier, LocationModifier, OwnerRequiredSkillModifier, ItemModifier}
use Rattle.rules.specs.declared.Pass2Effect.{Pass2Effect}

module _ (k : Book) (f : Fit) where
  -- "each item in the ship and each such item's charge"
  abbrev pub in_ship : Item → Bool
  in_ship o = is_item o && is_in_ship k o || is_charge o && is_in_ship k (item_of f o)

  -- each item on the char and each such item's charge
  abbrev pub on_char : Item → Bool
  on_char o = is_item o && is_on_char o || is_charge o && is_on_char (item_of f o)

  -- drones, fighters and every charge
  abbrev pub owned : Item → Bool
  owned o = is_charge o || is_item o && is_owner_modifiable o

  -- the types of the skills that an object requires: "from base values cut toward zero and held to i32"
  abbrev pub skills_of : Item → List ℤ
  skills_of o = map (λ r. cut r.value) (keep (λ r. some? (eq_z r.attribute_id) attribute_skills) (bases_of f o))

  -- whether it requires the skill s of an effect whose source is of the type: "Skill -1 means the source's own type"
  abbrev pub needs : ℤ → ℤ → Item → Bool
  needs type s o = some? (λ x. eq_z x (cond (eq_z s (negsuc 0)) type s)) (skills_of o)

  -- the location of the ship, of the char, or of any other target, which is that object alone
  abbrev pub located : ℕ → Item → Bool
  located target o =
      cond (is_ship (object f target)) (is_ship o || in_ship o)
      (cond (is_char (object f target)) (is_char o || is_skill o || is_item o && is_on_char o)
      (eqb o.number target))

  -- the five kinds, by the type of the source and the target
  abbrev pub named_by : Modifier → ℤ → ℕ → Item → Bool
  named_by ItemModifier type target o = eqb o.number target
  named_by LocationModifier type target o = located target o
  named_by (LocationGroupModifier g) type target o = located target o && eq_z o.group_id g
  named_by (LocationRequiredSkillModifier s) type target o = cond (is_char (object f target)) (on_char o) (in_ship o) && needs type s o
  named_by (OwnerRequiredSkillModifier s) type target o = owned o && needs type s o

  -- the type of an effect's source: "a buff's is 0"
  abbrev pub type_of : Origin → ℤ
  type_of (origin.Effect e o c a) = (object f o).type_id
  type_of (origin.Buff b v) = pos 0

  -- whether an effect names an object
  unfoldable pub named : Pass2Effect → Item → Bool
  named t o = named_by t.modifier (type_of t.origin) t.target o
