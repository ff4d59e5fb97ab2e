-- `records::type_effect` meets its contract. Assumes nothing.
use Rattle.lent.proofs.records.type_effect.Goals as goal
use Rattle.tables.specs.Tables.{row}
use Rattle.lent.proofs.Made.{type_effect_made}

pub returns : goal.returns
returns c = record { defined = type_effect_made (row c.args.type_effects.now c.args.i) c.signed.ensures.and_back c.signed-2.ensures.and_back }
