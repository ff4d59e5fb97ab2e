-- `lending::rooms_of` meets its contract. Assumes nothing.
use Rattle.pilots.proofs.lending.rooms_of.Goals as goal

pub returns : goal.returns
returns c = record { defined = cc }
