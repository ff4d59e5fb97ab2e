-- The base attributes of one object.
use Rattle.std.specs.Prelude.{Bool, map}
use Rattle.laws.specs.Lists.{ascends}
use Rattle.rules.specs.Sheet.{Fit, bases_of}
use Rattle.rules.specs.declared.Item.{Item}

-- "base attributes of one object ascend strictly"
abbrev pub range_ascends : Fit → Item → Bool
range_ascends f o = ascends (map (λ r. r.attribute_id) (bases_of f o))
