-- `is_counted` meets its contract. Assumes nothing.
use Rattle.tallies.proofs.is_counted.Goals as goal

pub returns : goal.returns
returns c = record { defined = λ k of. rw (c.is_item-item.ensures.defined, c.is_calculated.ensures.defined k of) }
