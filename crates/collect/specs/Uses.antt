-- The two halves of `in_use`. Definitions only.
use Rattle.std.specs.Prelude.{ℕ, Bool, ◌&&◌, ◌||◌, not, cond, eqb, ℤ, pos}
use Rattle.laws.specs.Lists.{eq_z, some?}
use Rattle.rules.specs.Sheet.{Fit, abilities_of, side_effects_of}
use Rattle.rules.specs.Item.{is_fighter, is_passive, abilities_given}
use Rattle.rules.specs.declared.DogmaEffect.{DogmaEffect}
use Rattle.rules.specs.declared.EffectCategory.{EffectCategory}
use Rattle.rules.specs.declared.Item.{Item}

-- "a fighter's effect that is not Passive is an ability, and the fit picks which run": the effect of that id, which is the type's default or not
abbrev pub is_able : Fit → Item → ℤ → ℕ → EffectCategory → Bool
is_able f o id default c = not (is_fighter o && not (is_passive c)) || cond (abilities_given o) (some? (eq_z id) (abilities_of f o)) (eqb default 1)

-- "a side effect is one that the fit names"
abbrev pub is_taken : Fit → Item → DogmaEffect → Bool
is_taken f o e = eq_z e.usage_chance_attribute_id (pos 0) || some? (eq_z e.id) (side_effects_of f o)
