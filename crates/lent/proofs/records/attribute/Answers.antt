-- `records::attribute` meets its contract. Assumes nothing.
use Rattle.lent.proofs.records.attribute.Goals as goal
use mathlib.Core.Path.{◌∙◌}
use lib.ListN.{get_or}
use lib.Ieee.{nan}
use Rattle.tables.specs.Tables.{row}
use Rattle.lent.proofs.Made.{attribute_made, attribute_held}

pub returns : goal.returns
returns c = record { defined = attribute_made (row c.args.attributes.now c.args.i) (get_or c.args.defaults.now c.args.i nan) c.signed.ensures.and_back c.signed-2.ensures.and_back c.signed-3.ensures.and_back ∙ attribute_held (row c.args.attributes.now c.args.i) c.args.defaults.now c.args.i c.requires.inside.1 }
