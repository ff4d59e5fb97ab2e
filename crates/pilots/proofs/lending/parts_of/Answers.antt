-- `lending::parts_of` meets its contract. Assumes nothing.
use Rattle.pilots.proofs.lending.parts_of.Goals as goal

pub returns : goal.returns
returns c = record { defined = cc }
