-- `head_of` meets its contract.
use Rattle.maps.proofs.head_of.Goals as goal
use mathlib.Core.Path.{refl}
use Rattle.maps.specs.Keys.{head_at}

pub returns : goal.returns
unfolding head_at
returns c = record { defined = refl }
