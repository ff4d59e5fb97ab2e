-- Look-ups: `info.rs` over the tables. 01, "Port order", 1: "A missing effect or buff collection is passed over".
use Rattle.std.specs.Prelude.{ℕ, ◌/◌, ◌%◌, Bool, List, ℤ, pos, eqb}
use Rattle.std.proofs.Math.Option.{Option, none, some, get_or}
use Rattle.laws.specs.Lists.{eq_z, keep, first, span}
use Rattle.laws.specs.Floats.{zero_f}
use Rattle.rules.specs.Sheet.{Book, Fit, bases_of}
use Rattle.rules.specs.declared.DogmaAttribute.{DogmaAttribute}
use Rattle.rules.specs.declared.DogmaEffect.{DogmaEffect}
use Rattle.rules.specs.declared.DogmaModifier.{DogmaModifier}
use Rattle.rules.specs.declared.TypeDogmaEffect.{TypeDogmaEffect}
use Rattle.rules.specs.declared.DbuffCollection.{DbuffCollection}
use Rattle.rules.specs.declared.Item.{Item}
use Rattle.rules.specs.declared.BaseAttribute.{BaseAttribute}

-- "A missing attribute record: not stackable, high not good, default 0.0"; "Min, max .. 0 mean none"
abbrev pub missing : ℤ → DogmaAttribute
missing a = record { id = a; flags = 0; default_value = zero_f; min_attribute_id = pos 0; max_attribute_id = pos 0 }

-- "A missing attribute record: not stackable, high not good, default 0.0"
unfoldable pub get_dogma_attribute : Book → ℤ → DogmaAttribute
get_dogma_attribute k a = get_or (first (λ r. eq_z r.id a) k.attributes) (missing a)

-- "flags (1 stackable, 2 high is good)"
abbrev pub stackable : DogmaAttribute → Bool
stackable r = eqb (r.flags % 2) 1

-- "2 high is good"
abbrev pub high_is_good : DogmaAttribute → Bool
high_is_good r = eqb (r.flags / 2) 1

-- "A missing effect or buff collection is passed over"
unfoldable pub get_dogma_effect : Book → ℤ → Option DogmaEffect
get_dogma_effect k e = first (λ r. eq_z r.id e) k.effects

-- "types in 4 do not descend"
unfoldable pub get_dogma_effects : Book → ℤ → List TypeDogmaEffect
get_dogma_effects k t = keep (λ r. eq_z r.type_id t) k.type_effects

-- "A missing effect or buff collection is passed over"
unfoldable pub get_dbuff_collection : Book → ℤ → Option DbuffCollection
get_dbuff_collection k b = first (λ r. eq_z r.id b) k.buff_collections

-- the modifiers of an effect; "first modifier, count"
abbrev pub modifiers_of : Book → DogmaEffect → List DogmaModifier
modifiers_of k e = span e.first_modifier e.modifiers k.modifiers

-- an object's base attribute, where it has it; "base attributes of one object ascend strictly"
unfoldable pub get_base : Fit → Item → ℤ → Option BaseAttribute
get_base f o a = first (λ r. eq_z r.attribute_id a) (bases_of f o)
