-- `records::record_of` meets its contract. Assumes nothing.
use Rattle.info.proofs.records.record_of.Goals as goal
use Rattle.info.proofs.Elements.{part}

pub returns : goal.returns
returns c = record { record_and_width = part _ _ _ c.requires.inside }
