-- `records::modifier` meets its contract. Assumes nothing.
use Rattle.info.proofs.records.modifier.Goals as goal
use borrow.Author.Rules.{sfits_of}
use Rattle.rules.specs.Sheet.{book_of, modifier_from}
use Rattle.info.proofs.Elements.{kept, element}

pub returns : goal.returns
unfolding book_of
returns c = record { record_i = element modifier_from 3 c.args.book.now c.args.pairs.now c.args.i c.requires.inside c.record_of-r.ensures.record_and_width.0 c.offset_of.ensures.defined (λ j. record { number = c.args.i; func = c.u32_at.ensures.defined j; domain = c.u32_at-2.ensures.defined j; operation = c.u32_at-3.ensures.defined j; modifying_attribute_id = kept (sfits_of c.i32_at.type_inv) c.i32_at.ensures.defined j; modified_attribute_id = kept (sfits_of c.i32_at-2.type_inv) c.i32_at-2.ensures.defined j; skill_type_id = kept (sfits_of c.i32_at-3.type_inv) c.i32_at-3.ensures.defined j; group_id = kept (sfits_of c.i32_at-4.type_inv) c.i32_at-4.ensures.defined j }) }
