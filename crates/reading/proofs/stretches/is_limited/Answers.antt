-- `stretches::is_limited` meets its contract.
use Rattle.reading.proofs.stretches.is_limited.Goals as goal
use Rattle.reading.proofs.Limiting.{mark_place, not_limited}

pub returns : goal.returns
returns c = record { unlimited = not_limited c.args.id c.args.limits.now (mark_place c.args.id c.ranges.id c.bits.ensures.defined c.index.ensures.defined.0) }
