-- `is_broken` meets its contract. Assumes nothing.
use Rattle.tournament.proofs.is_broken.Goals as goal
use Rattle.tournament.proofs.Reading.{over-told}

pub returns : goal.returns
returns c = record { defined = over-told c.args.line c.args.count c.most-allows.ensures.defined }
