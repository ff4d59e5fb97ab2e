-- `records::ask` meets its contract. Assumes nothing.
use Rattle.lent.proofs.records.ask.Goals as goal
use Rattle.tables.specs.Tables.{row}
use Rattle.lent.proofs.Made.{ask_made}

pub returns : goal.returns
returns c = record { defined = ask_made (row c.args.asks.now c.args.i) c.signed.ensures.and_back }
