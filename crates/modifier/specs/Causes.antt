-- What a modifier gives, by what it is collected for.
use Rattle.std.specs.Prelude.{ℕ, ◌≡◌, List, [], ◌∷◌, Option, Some, None, Result, Ok, Err}
use Rattle.rules.specs.Sheet.{Book, Fit}
use Rattle.rules.specs.Collect.{Move, taken, refuse, modifier_moves, projected_modifier_moves, buff_modifier_moves, named, unless_zero}
use Rattle.rules.specs.declared.Modifier.{Modifier}
use Rattle.rules.specs.declared.EffectOperator.{EffectOperator}
use Rattle.rules.specs.declared.DogmaModifier.{DogmaModifier}
use Rattle.rules.specs.declared.DogmaEffect.{DogmaEffect}
use Rattle.rules.specs.declared.Item.{Item}
use Rattle.rules.specs.declared.EffectCategory.{EffectCategory}
use Rattle.rules.specs.declared.ProjectedBuff.{ProjectedBuff}
use Rattle.rules.specs.declared.Origin.TheVariants.{Effect}
use Rattle.rules.specs.declared.Pass2Effect.{Pass2Effect}
use Rattle.rules.specs.Ids.{OptionalId}
use Rattle.rules.specs.declared.Refusal.{Refusal}
use Rattle.modifier.specs.declared.codes.Owner.{Owner}

-- what is taken, nothing where the modifier is passed over, or a refusal
abbrev pub moves_of : Result (Option Pass2Effect) Refusal → List Move
moves_of (Ok (Some t)) = taken t ∷ []
moves_of (Ok None) = []
moves_of (Err x) = refuse x ∷ []

-- the collected effect of an object's modifier, by what its tests gave
abbrev pub effect_of : Item → DogmaEffect → DogmaModifier → EffectCategory → OptionalId → Modifier → EffectOperator → ℕ → Pass2Effect
effect_of o e m c r func op target =
    record {
      origin = Effect e.id o.number c m.modifying_attribute_id;
      modifier = func;
      operator = op;
      source_quantity = o.quantity;
      target = target;
      target_attribute_id = m.modified_attribute_id;
      resistance = r;
    }

abbrev pub resistance_of : Fit → Item → DogmaEffect → OptionalId
resistance_of f o e = unless_zero (named f o) (unless_zero e.resistance_attribute_id None)

-- what modifiers are collected for: an object's own effect, its projected effect, a buff
pub data Cause : Type 0 where
  own : Owner → DogmaEffect → EffectCategory → Cause
  projected : Owner → DogmaEffect → EffectCategory → OptionalId → Cause
  buff : ProjectedBuff → EffectOperator → Cause

-- what a modifier gives, by what it is collected for
abbrev pub cause_moves : Book → Fit → Cause → DogmaModifier → List Move
cause_moves k f (own w e c) m = modifier_moves k f w.item e c m
cause_moves k f (projected w e c r) m = projected_modifier_moves f w.item e c m
cause_moves k f (buff b o) m = buff_modifier_moves b o m

-- what g makes of each modifier is what a way of giving, R, makes of it
abbrev pub Gives : (DogmaModifier → Result (Option Pass2Effect) Refusal → Type 0) → (DogmaModifier → List Move) → Type 0
Gives R g = (m : DogmaModifier) (r : Result (Option Pass2Effect) Refusal) → R m r → moves_of r ≡ g m
