-- `records::projected_buff` meets its contract. Assumes nothing.
use Rattle.info.proofs.records.projected_buff.Goals as goal
use borrow.Author.Rules.{sfits_of}
use Rattle.rules.specs.Sheet.{fit_of, buff_from}
use Rattle.info.proofs.Elements.{kept, element}

pub returns : goal.returns
unfolding fit_of
returns c = record { record_i = element buff_from 9 c.args.fit.now c.args.pairs.now c.args.i c.requires.inside c.record_of-r.ensures.record_and_width.0 c.offset_of.ensures.defined (λ j. record { id = kept (sfits_of c.i32_at.type_inv) c.i32_at.ensures.defined j; value = c.f64_at.ensures.defined j }) }
