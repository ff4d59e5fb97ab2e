-- `rises` meets its contract. Assumes nothing.
use Rattle.tournament.proofs.rises.Goals as goal
use Rattle.tournament.proofs.Reading.{rises-told}

pub returns : goal.returns
returns c = record { defined = rises-told c.args.last c.args.line c.signed-before.result c.signed-own.result c.signed-before.ensures.and_back c.signed-own.ensures.and_back }
