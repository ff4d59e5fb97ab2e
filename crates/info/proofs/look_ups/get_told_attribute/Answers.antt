-- `look_ups::get_told_attribute` meets its contract. Assumes nothing.
use Rattle.info.proofs.look_ups.get_told_attribute.Goals as goal
use mathlib.Core.Path.{ap, ◌∙◌}
use mir.Syntax.{w32}
use mir.ValLaws.{to_z-of_z}
use Rattle.rules.specs.Sheet.{book_of}
use Rattle.rules.specs.Info.{get_dogma_attribute}

pub returns : goal.returns
returns c = record { defined = c.attribute_by.ensures.defined ∙ ap (get_dogma_attribute (book_of c.args.book.now c.args.pairs.now)) (to_z-of_z w32 c.args.id c.ranges.id) }
