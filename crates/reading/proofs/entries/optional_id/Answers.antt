-- `reading::entries::optional_id` meets its contract.
use Rattle.reading.proofs.entries.optional_id.Goals as goal
use Rattle.reading.proofs.Decodes.{id-given, id_absent}

pub returns-then-given-eq1 : goal.returns-then-given-eq1
returns-then-given-eq1 c = record { defined = id-given c.signed.result c.signed.ensures.and_back c.if-given-eq1.true }

pub returns : goal.returns
returns c = record { defined = id_absent c.if-given-eq1.false }
