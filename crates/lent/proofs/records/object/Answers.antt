-- `records::object` meets its contract. Assumes nothing.
use Rattle.lent.proofs.records.object.Goals as goal
use Rattle.tables.specs.Tables.{row}
use Rattle.lent.proofs.Made.{object_made}

pub returns : goal.returns
returns c = record { defined = object_made (row c.args.objects.now c.args.i) c.args.i c.signed.ensures.and_back c.signed-2.ensures.and_back c.signed-3.ensures.and_back c.signed-4.ensures.and_back c.signed-5.ensures.and_back }
