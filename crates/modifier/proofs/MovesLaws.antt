-- The category that an own modifier is collected with: on attribute 1152 a rig keeps Passive.
use mathlib.Core.Bool.{◌&&◌, cond}
use Rattle.laws.specs.Lists.{eq_z}
use Rattle.rules.specs.Constants.{upgrade_load}
use Rattle.rules.specs.Item.{is_rig}
use Rattle.rules.specs.declared.Item.{Item}
use Rattle.rules.specs.declared.DogmaEffect.{DogmaEffect}
use Rattle.rules.specs.declared.DogmaModifier.{DogmaModifier}
use Rattle.rules.specs.declared.EffectCategory.{EffectCategory}
use Rattle.rules.specs.declared.EffectCategory.TheVariants.{Passive}

module _ (o : Item) (e : DogmaEffect) (m : DogmaModifier) where
  abbrev pub source_of : EffectCategory → EffectCategory
  source_of c = cond (is_rig o && eq_z m.modified_attribute_id upgrade_load) Passive c
