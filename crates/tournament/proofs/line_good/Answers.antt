-- `line_good` meets its contract. Assumes nothing.
use Rattle.tournament.proofs.line_good.Goals as goal
use borrow.Author.Rules.{sfits_of}
use Rattle.tournament.proofs.Reading.{good_told}

pub returns : goal.returns
returns c = record { defined = good_told c.args.line c.signed-id.result (sfits_of c.signed-id.type_inv) c.signed-id.ensures.defined }
