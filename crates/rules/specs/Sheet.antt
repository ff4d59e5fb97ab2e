-- The ten tables: tables 1 to 5 and the category numbers are the book, tables 6 to 10, depth and recording the fit. 01, "The sheet".
-- Nothing here says that a sheet is well formed: see Shape.
use Rattle.std.specs.Prelude.{ℕ, ◌+◌, List, map, ℤ}
use Rattle.laws.specs.Lists.{from, span}
use Rattle.rules.specs.Bytes.{u32_at, i32_at, f64_at, count_of, categories_at, depth_at, record_at}
use Rattle.rules.specs.declared.DogmaAttribute.{DogmaAttribute}
use Rattle.rules.specs.declared.DogmaEffect.{DogmaEffect}
use Rattle.rules.specs.declared.DogmaModifier.{DogmaModifier}
use Rattle.rules.specs.declared.TypeDogmaEffect.{TypeDogmaEffect}
use Rattle.rules.specs.declared.DbuffCollection.{DbuffCollection}
use Rattle.rules.specs.declared.Item.{Item}
use Rattle.rules.specs.declared.BaseAttribute.{BaseAttribute}
use Rattle.rules.specs.declared.ProjectedBuff.{ProjectedBuff}
use Rattle.rules.specs.declared.Ask.{Ask}

-- "`impl Info` becomes the tables"
pub record Book : Type 0 where
  pub modules : ℤ
  pub subsystems : ℤ
  pub structure_modules : ℤ
  pub attributes : List DogmaAttribute
  pub effects : List DogmaEffect
  pub modifiers : List DogmaModifier
  pub type_effects : List TypeDogmaEffect
  pub buff_collections : List DbuffCollection

pub record Fit : Type 0 where
  pub depth : ℕ
  pub recording : ℕ
  pub objects : List Item
  pub bases : List BaseAttribute
  pub ids : List ℤ
  pub buffs : List ProjectedBuff
  pub asks : List Ask

-- record k of each table, from its own bytes r; "id, flags (1 stackable, 2 high is good), default float, min id, max id"
abbrev pub attribute_from : ℕ → List ℕ → DogmaAttribute
attribute_from k r =
    record { id = i32_at r 0; flags = u32_at r 4; default_value = f64_at r 8; min_attribute_id = i32_at r 16; max_attribute_id = i32_at r 20 }

-- "id, category, resistance attribute, usage chance attribute, first modifier, count"
abbrev pub effect_from : ℕ → List ℕ → DogmaEffect
effect_from k r =
    record {
      number = k;
      id = i32_at r 0;
      category = u32_at r 4;
      resistance_attribute_id = i32_at r 8;
      usage_chance_attribute_id = i32_at r 12;
      first_modifier = u32_at r 16;
      modifiers = u32_at r 20;
    }

-- "func, domain, operation, modifying attribute, modified attribute, skill type, group"
abbrev pub modifier_from : ℕ → List ℕ → DogmaModifier
modifier_from k r =
    record {
      number = k;
      func = u32_at r 0;
      domain = u32_at r 4;
      operation = u32_at r 8;
      modifying_attribute_id = i32_at r 12;
      modified_attribute_id = i32_at r 16;
      skill_type_id = i32_at r 20;
      group_id = i32_at r 24;
    }

-- "type, effect, default (0, 1)"
abbrev pub type_effect_from : ℕ → List ℕ → TypeDogmaEffect
type_effect_from k r = record { type_id = i32_at r 0; effect_id = i32_at r 4; is_default = u32_at r 8 }

-- "id, operation, first modifier, count"
abbrev pub buff_collection_from : ℕ → List ℕ → DbuffCollection
buff_collection_from k r =
    record { number = k; id = i32_at r 0; operation = u32_at r 4; first_modifier = u32_at r 8; modifiers = u32_at r 12 }

-- "kind, type, group, category, slot, quantity, state, max state, flags (1 abilities given, 2 mutated), mutation base, projected effect,
-- then first and count for base attributes, abilities, side effects"
abbrev pub object_from : ℕ → List ℕ → Item
object_from k r =
    record {
      number = k;
      kind = u32_at r 0;
      type_id = i32_at r 4;
      group_id = i32_at r 8;
      category_id = i32_at r 12;
      slot = u32_at r 16;
      quantity = u32_at r 20;
      state = u32_at r 24;
      max_state = u32_at r 28;
      flags = u32_at r 32;
      mutation_base = i32_at r 36;
      projected_effect = i32_at r 40;
      first_attribute = u32_at r 44;
      attributes = u32_at r 48;
      first_ability = u32_at r 52;
      abilities = u32_at r 56;
      first_side_effect = u32_at r 60;
      side_effects = u32_at r 64;
    }

-- "attribute, float"
abbrev pub base_from : ℕ → List ℕ → BaseAttribute
base_from k r = record { attribute_id = i32_at r 0; value = f64_at r 4 }

-- "ids, 4,096", each an "id"
abbrev pub id_from : ℕ → List ℕ → ℤ
id_from k r = i32_at r 0

-- "buff, value float"
abbrev pub buff_from : ℕ → List ℕ → ProjectedBuff
buff_from k r = record { id = i32_at r 0; value = f64_at r 4 }

-- "object number, attribute"
abbrev pub ask_from : ℕ → List ℕ → Ask
ask_from k r = record { object = u32_at r 0; attribute_id = i32_at r 4 }

-- all of table t
abbrev pub table : {A : Type 0} → (ℕ → List ℕ → A) → ℕ → List ℕ → List (List ℕ) → List A
table read t b pairs = map (λ k. read k (record_at b pairs t k)) (from 0 (count_of pairs t))

-- after the pairs stand the three category numbers, depth and recording; "then CATEGORY_MODULE, CATEGORY_SUBSYSTEM, CATEGORY_STRUCTURE_MODULE"
unfoldable pub book_of : List ℕ → List (List ℕ) → Book
book_of b pairs =
    record {
      modules = i32_at b (categories_at pairs);
      subsystems = i32_at b (categories_at pairs + 4);
      structure_modules = i32_at b (categories_at pairs + 8);
      attributes = table attribute_from 1 b pairs;
      effects = table effect_from 2 b pairs;
      modifiers = table modifier_from 3 b pairs;
      type_effects = table type_effect_from 4 b pairs;
      buff_collections = table buff_collection_from 5 b pairs;
    }

-- "depth, 1 to 256; recording, 0 or 1"
unfoldable pub fit_of : List ℕ → List (List ℕ) → Fit
fit_of b pairs =
    record {
      depth = u32_at b (depth_at pairs);
      recording = u32_at b (depth_at pairs + 4);
      objects = table object_from 6 b pairs;
      bases = table base_from 7 b pairs;
      ids = table id_from 8 b pairs;
      buffs = table buff_from 9 b pairs;
      asks = table ask_from 10 b pairs;
    }

-- what an object's record points at; "first and count for base attributes, abilities, side effects"
abbrev pub bases_of : Fit → Item → List BaseAttribute
bases_of f o = span o.first_attribute o.attributes f.bases

-- "abilities and side effects in 8"
abbrev pub abilities_of : Fit → Item → List ℤ
abilities_of f o = span o.first_ability o.abilities f.ids

-- "abilities and side effects in 8"
abbrev pub side_effects_of : Fit → Item → List ℤ
side_effects_of f o = span o.first_side_effect o.side_effects f.ids
