-- `records::type_effect` meets its contract. Assumes nothing.
use Rattle.info.proofs.records.type_effect.Goals as goal
use borrow.Author.Rules.{sfits_of}
use Rattle.rules.specs.Sheet.{book_of, type_effect_from}
use Rattle.info.proofs.Elements.{kept, element}

pub returns : goal.returns
unfolding book_of
returns c = record { record_i = element type_effect_from 4 c.args.book.now c.args.pairs.now c.args.i c.requires.inside c.record_of-r.ensures.record_and_width.0 c.offset_of.ensures.defined (λ j. record { type_id = kept (sfits_of c.i32_at.type_inv) c.i32_at.ensures.defined j; effect_id = kept (sfits_of c.i32_at-2.type_inv) c.i32_at-2.ensures.defined j; is_default = c.u32_at.ensures.defined j }) }
