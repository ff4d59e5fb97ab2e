-- `records::buff_collection` meets its contract. Assumes nothing.
use Rattle.lent.proofs.records.buff_collection.Goals as goal
use Rattle.tables.specs.Tables.{row}
use Rattle.lent.proofs.Made.{buff_collection_made}

pub returns : goal.returns
returns c = record { defined = buff_collection_made (row c.args.buff_collections.now c.args.i) c.args.i c.signed.ensures.and_back }
