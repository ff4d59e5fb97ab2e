-- `locations::is_calculated` meets its contract. Assumes nothing.
use Rattle.item.proofs.locations.is_calculated.Goals as goal

pub returns : goal.returns
returns c = record { defined = λ k of. rw (c.is_in_ship.ensures.defined k of, c.is_fighter.ensures.defined, c.is_on_char.ensures.defined, c.is_drone.ensures.defined) }
