-- A record made from a row's numbers, signed ones by their bits, is the row as reading has it.
use Prim.Native.Nat.{ℕ, ◌<◌}
use mathlib.Core.Path.{◌≡◌, refl}
use mathlib.Core.List.{List}
use lib.ListN.{length, get_or}
use lib.Ieee.{Float, nan}
use mir.Syntax.{w32}
use mir.Val.{to_z}
use Rattle.laws.specs.Floats.{zero_f}
use Rattle.rules.specs.declared.DogmaAttribute.{DogmaAttribute}
use Rattle.rules.specs.declared.DogmaEffect.{DogmaEffect}
use Rattle.rules.specs.declared.TypeDogmaEffect.{TypeDogmaEffect}
use Rattle.rules.specs.declared.DbuffCollection.{DbuffCollection}
use Rattle.rules.specs.declared.Item.{Item}
use Rattle.rules.specs.declared.BaseAttribute.{BaseAttribute}
use Rattle.rules.specs.declared.Ask.{Ask}
use Rattle.tables.specs.Tables.{value, attribute_of, effect_of, type_effect_of, buff_collection_of, object_of, base_of, ask_of}
use Rattle.tables.proofs.Numbers.{float_any}

pub attribute_made : (r : List ℕ) (x : Float) {a b c : ℕ} → a ≡ get_or r 0 0 → b ≡ get_or r 2 0 → c ≡ get_or r 3 0
    → ◌≡◌ {A = DogmaAttribute} (record { id = to_z w32 a; flags = get_or r 1 0; default_value = x; min_attribute_id = to_z w32 b; max_attribute_id = to_z w32 c }) (attribute_of r x)
attribute_made r x ea eb ec = rw (ea, eb, ec) refl

pub effect_made : (r : List ℕ) (k : ℕ) {a b c : ℕ} → a ≡ get_or r 0 0 → b ≡ get_or r 2 0 → c ≡ get_or r 3 0
    → ◌≡◌ {A = DogmaEffect} (record { number = k; id = to_z w32 a; category = get_or r 1 0; resistance_attribute_id = to_z w32 b; usage_chance_attribute_id = to_z w32 c; first_modifier = get_or r 4 0; modifiers = get_or r 5 0 }) (effect_of k r)
effect_made r k ea eb ec = rw (ea, eb, ec) refl

pub type_effect_made : (r : List ℕ) {a b : ℕ} → a ≡ get_or r 0 0 → b ≡ get_or r 1 0
    → ◌≡◌ {A = TypeDogmaEffect} (record { type_id = to_z w32 a; effect_id = to_z w32 b; is_default = get_or r 2 0 }) (type_effect_of r)
type_effect_made r ea eb = rw (ea, eb) refl

pub buff_collection_made : (r : List ℕ) (k : ℕ) {a : ℕ} → a ≡ get_or r 0 0
    → ◌≡◌ {A = DbuffCollection} (record { number = k; id = to_z w32 a; operation = get_or r 1 0; first_modifier = get_or r 2 0; modifiers = get_or r 3 0 }) (buff_collection_of k r)
buff_collection_made r k ea = rw (ea) refl

pub object_made : (r : List ℕ) (k : ℕ) {a b c d e : ℕ} → a ≡ get_or r 1 0 → b ≡ get_or r 2 0 → c ≡ get_or r 3 0 → d ≡ get_or r 9 0 → e ≡ get_or r 10 0
    → ◌≡◌ {A = Item} (record { number = k; kind = get_or r 0 0; type_id = to_z w32 a; group_id = to_z w32 b; category_id = to_z w32 c; slot = get_or r 4 0; quantity = get_or r 5 0; state = get_or r 6 0; max_state = get_or r 7 0; flags = get_or r 8 0; mutation_base = to_z w32 d; projected_effect = to_z w32 e; first_attribute = get_or r 11 0; attributes = get_or r 12 0; first_ability = get_or r 13 0; abilities = get_or r 14 0; first_side_effect = get_or r 15 0; side_effects = get_or r 16 0 }) (object_of k r)
object_made r k ea eb ec ed ee = rw (ea, eb, ec, ed, ee) refl

pub ask_made : (r : List ℕ) {a : ℕ} → a ≡ get_or r 1 0
    → ◌≡◌ {A = Ask} (record { object = get_or r 0 0; attribute_id = to_z w32 a }) (ask_of r)
ask_made r ea = rw (ea) refl

-- a float as the column has it
pub attribute_held : (r : List ℕ) (w : List Float) (i : ℕ) → i < length w → attribute_of r (get_or w i nan) ≡ attribute_of r (value w i)
attribute_held r w i h = rw (float_any w i h zero_f) refl

pub base_made : (v : List ℕ) (w : List Float) (i : ℕ) {a : ℕ} → i < length w → a ≡ get_or v i 0
    → ◌≡◌ {A = BaseAttribute} (record { attribute_id = to_z w32 a; value = get_or w i nan }) (base_of (get_or v i 0) (value w i))
base_made v w i h e = rw (e, float_any w i h zero_f) refl
