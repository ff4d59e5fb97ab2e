-- `records::id_at` meets its contract. Assumes nothing.
use Rattle.info.proofs.records.id_at.Goals as goal
use borrow.Author.Rules.{sfits_of}
use Rattle.rules.specs.Sheet.{fit_of, id_from}
use Rattle.info.proofs.Elements.{kept, element}

pub returns : goal.returns
unfolding fit_of
returns c = record { record_i = element id_from 8 c.args.fit.now c.args.pairs.now c.args.i c.requires.inside c.record_of-r.ensures.record_and_width.0 c.offset_of.ensures.defined (λ j. kept (sfits_of c.i32_at.type_inv) c.i32_at.ensures.defined j) }
