-- An object of the fit.
use Rattle.std.specs.Prelude.{◌<◌, ◌≡◌, length, get_or}
use Rattle.rules.specs.Sheet.{Fit}
use Rattle.rules.specs.declared.Item.{Item}

-- o is the fit's object of its number
pub record OfFit (f : Fit) (o : Item) : Type 0 where
  pub few : o.number < length f.objects
  pub is : (d : Item) → o ≡ get_or f.objects o.number d
