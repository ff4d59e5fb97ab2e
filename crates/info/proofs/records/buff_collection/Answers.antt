-- `records::buff_collection` meets its contract. Assumes nothing.
use Rattle.info.proofs.records.buff_collection.Goals as goal
use borrow.Author.Rules.{sfits_of}
use Rattle.rules.specs.Sheet.{book_of, buff_collection_from}
use Rattle.info.proofs.Elements.{kept, element}

pub returns : goal.returns
unfolding book_of
returns c = record { record_i = element buff_collection_from 5 c.args.book.now c.args.pairs.now c.args.i c.requires.inside c.record_of-r.ensures.record_and_width.0 c.offset_of.ensures.defined (λ j. record { number = c.args.i; id = kept (sfits_of c.i32_at.type_inv) c.i32_at.ensures.defined j; operation = c.u32_at.ensures.defined j; first_modifier = c.u32_at-2.ensures.defined j; modifiers = c.u32_at-3.ensures.defined j }) }
