-- `reading::entries::entry_at` meets its contract.
use Rattle.reading.proofs.entries.entry_at.Goals as goal
use Rattle.reading.proofs.Decodes.{entry_read}

pub returns : goal.returns
returns c = record { defined = entry_read c.origin_of.ensures.defined c.operator_of.ensures.defined c.optional_id.ensures.defined }
