-- Objects: what they are, where they are, what runs on them. `item.rs` and `mod.rs`.
use Rattle.std.specs.Prelude.{ℕ, suc, ◌-◌, ◌/◌, ◌%◌, Bool, ◌&&◌, ◌||◌, not, cond, List, ◌++◌, get_or, ℤ, pos, leb, eqb}
use Rattle.std.proofs.Math.Option
use Rattle.std.proofs.Math.Option.{Option, none, some}
use Rattle.laws.specs.Lists.{eq_z, some?, keep}
use Rattle.rules.specs.Constants.{category_drone, category_implant, category_fighter, category_structure}
use Rattle.rules.specs.Codes.{category_code, state_code}
use Rattle.rules.specs.Sheet.{Book, Fit}
use Rattle.rules.specs.Info.{get_dogma_effects}
use Rattle.rules.specs.declared.Item.{Item}
use Rattle.rules.specs.declared.TypeDogmaEffect.{TypeDogmaEffect}
use Rattle.rules.specs.declared.EffectCategory.{EffectCategory}
use Rattle.rules.specs.declared.EffectCategory.TheVariants as category
use Rattle.rules.specs.declared.ItemState.{ItemState}
use Rattle.rules.specs.declared.ItemState.TheVariants as state
use Rattle.rules.specs.declared.RunsAt.{RunsAt}

-- "Kinds: 0 ship, 1 mode, 2 char, 3 item, 4 charge, 5 skill, 6 projected"
abbrev pub is_ship : Item → Bool
is_ship o = eqb o.kind 0

-- "1 mode"
abbrev pub is_mode : Item → Bool
is_mode o = eqb o.kind 1

-- "2 char"
abbrev pub is_char : Item → Bool
is_char o = eqb o.kind 2

-- "3 item"
abbrev pub is_item : Item → Bool
is_item o = eqb o.kind 3

-- "4 charge"
abbrev pub is_charge : Item → Bool
is_charge o = eqb o.kind 4

-- "5 skill"
abbrev pub is_skill : Item → Bool
is_skill o = eqb o.kind 5

-- "6 projected"
abbrev pub is_projected : Item → Bool
is_projected o = eqb o.kind 6

-- "Slots: 0 none or other, then High, Medium, Low, Rig, Subsystem, Service, DroneBay, FighterTube, FighterBay, Implant, Booster"
abbrev pub is_rig : Item → Bool
is_rig o = eqb o.slot 4

-- "then High, Medium, Low, Rig, Subsystem, Service, DroneBay, FighterTube, FighterBay, Implant, Booster"
abbrev pub is_subsystem : Item → Bool
is_subsystem o = eqb o.slot 5

abbrev pub is_drone : Item → Bool
is_drone o = eqb o.slot 7 && eq_z o.category_id category_drone

abbrev pub is_fighter : Item → Bool
is_fighter o = (eqb o.slot 8 || eqb o.slot 9) && eq_z o.category_id category_fighter

abbrev pub is_on_char : Item → Bool
is_on_char o = (eqb o.slot 10 || eqb o.slot 11) && eq_z o.category_id category_implant

abbrev pub is_owner_modifiable : Item → Bool
is_owner_modifiable o = is_fighter o || is_drone o

-- "CATEGORY_MODULE, CATEGORY_SUBSYSTEM, CATEGORY_STRUCTURE_MODULE" are the header's
abbrev pub is_module_category : Book → ℤ → Bool
is_module_category k c = eq_z c k.modules || eq_z c k.subsystems || eq_z c k.structure_modules

abbrev pub is_module : Book → Item → Bool
is_module k o = leb 1 o.slot && leb o.slot 5 && is_module_category k o.category_id

abbrev pub is_in_ship : Book → Item → Bool
is_in_ship k o = is_module k o || eqb o.slot 6 && is_module_category k o.category_id

abbrev pub is_calculated : Book → Item → Bool
is_calculated k o = is_in_ship k o || is_fighter o || is_on_char o || is_drone o

-- "flags (1 abilities given, 2 mutated)"
abbrev pub abilities_given : Item → Bool
abilities_given o = eqb (o.flags % 2) 1

-- "2 mutated"
abbrev pub mutated : Item → Bool
mutated o = eqb (o.flags / 2) 1

-- objects go by number; past the last there is none, of no kind
abbrev pub no_item : Item
no_item =
    record {
      number = 0;
      kind = 7;
      type_id = pos 0;
      group_id = pos 0;
      category_id = pos 0;
      slot = 0;
      quantity = 0;
      state = 0;
      max_state = 0;
      flags = 0;
      mutation_base = pos 0;
      projected_effect = pos 0;
      first_attribute = 0;
      attributes = 0;
      first_ability = 0;
      abilities = 0;
      first_side_effect = 0;
      side_effects = 0;
    }

-- "objects go by number"
abbrev pub object : Fit → ℕ → Item
object f n = get_or f.objects n no_item

-- "`Box<Item>` becomes the next object record": a charge's item stands before it
abbrev pub has_charge : Fit → Item → Bool
has_charge f o = is_charge (object f (suc o.number))

-- "items each with at most one charge right after"
abbrev pub item_of : Fit → Item → Item
item_of f o = object f (o.number - 1)

-- the char stands right after the ship or its mode; "ship, at most one mode, char"
abbrev pub char_of : Fit → ℕ
char_of f = cond (is_char (object f 1)) 1 2

abbrev pub structure_fit : Fit → Bool
structure_fit f = eq_z (object f 0).category_id category_structure

-- an item that collection passes over, with its charge
abbrev pub passed : Book → Fit → Item → Bool
passed k f o = structure_fit f && is_on_char o || not (is_calculated k o)

-- `required_state`
abbrev pub required_state : EffectCategory → Option ItemState
required_state category.Passive = some state.Passive
required_state category.Online = some state.Online
required_state category.Active = some state.Active
required_state category.Overload = some state.Overload
required_state category.Target = none
required_state category.Area = none
required_state category.Dungeon = none
required_state category.System = none

-- the lowest state that would do: "`Target` and the three after it run from Active up"
abbrev pub lowest_state : EffectCategory → ItemState
lowest_state c = Option.get_or (required_state c) state.Active

-- `runs_at`, on an item in the state; "`Target` and the three after it run from Active up"
abbrev pub runs_at : EffectCategory → ℕ → Bool
runs_at c s = leb (state_code (lowest_state c)) s

-- "`runs_at` is to answer, beside its yes or no, with the lowest state that would do"
abbrev pub runs_answer : EffectCategory → ℕ → RunsAt
runs_answer c s = record { runs = runs_at c s; lowest = lowest_state c }

abbrev pub is_passive : EffectCategory → Bool
is_passive c = eqb (category_code c) 0

-- "own type effects first, then base effects whose id the type lacks"
unfoldable pub effects_of : Book → Item → List TypeDogmaEffect
effects_of k o =
    let own = get_dogma_effects k o.type_id in
    let base = keep (λ r. not (some? (λ e. eq_z e.effect_id r.effect_id) own)) (get_dogma_effects k o.mutation_base) in
    cond (mutated o) (own ++ base) own

-- the category that an object has an effect in: a rig's Passive is Online
-- "Resetting a rig's Passive on attribute 1152 to Online as well" is a slip: `modifier_moves` keeps it there
abbrev pub category_on : Item → EffectCategory → EffectCategory
category_on o c = cond (is_rig o && is_passive c) category.Online c
