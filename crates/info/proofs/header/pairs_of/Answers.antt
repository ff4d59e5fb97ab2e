-- `header::pairs_of` meets its contract. Assumes nothing.
use Rattle.info.proofs.header.pairs_of.Goals as goal

pub returns : goal.returns
returns c = record { defined = cc }
