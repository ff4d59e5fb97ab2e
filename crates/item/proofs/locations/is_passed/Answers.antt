-- `locations::is_passed` meets its contract. Assumes nothing.
use Rattle.item.proofs.locations.is_passed.Goals as goal

pub returns : goal.returns
returns c = record { defined = λ k f of hull. rw (hull, c.is_on_char.ensures.defined, c.is_calculated.ensures.defined k of) }
