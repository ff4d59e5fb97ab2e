-- `records::effect` meets its contract. Assumes nothing.
use Rattle.lent.proofs.records.effect.Goals as goal
use Rattle.tables.specs.Tables.{row}
use Rattle.lent.proofs.Made.{effect_made}

pub returns : goal.returns
returns c = record { defined = effect_made (row c.args.effects.now c.args.i) c.args.i c.signed.ensures.and_back c.signed-2.ensures.and_back c.signed-3.ensures.and_back }
