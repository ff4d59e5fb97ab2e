-- `records::base_attribute` meets its contract. Assumes nothing.
use Rattle.lent.proofs.records.base_attribute.Goals as goal
use Rattle.lent.proofs.Made.{base_made}

pub returns : goal.returns
returns c = record { defined = base_made c.args.base_attributes.now c.args.base_values.now c.args.i c.requires.inside.1 c.signed.ensures.and_back }
