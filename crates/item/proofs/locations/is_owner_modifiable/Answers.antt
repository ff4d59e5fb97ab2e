-- `locations::is_owner_modifiable` meets its contract. Assumes nothing.
use Rattle.item.proofs.locations.is_owner_modifiable.Goals as goal

pub returns : goal.returns
returns c = record { defined = rw (c.is_fighter.ensures.defined, c.is_drone.ensures.defined) }
