-- `records::effect` meets its contract. Assumes nothing.
use Rattle.info.proofs.records.effect.Goals as goal
use borrow.Author.Rules.{sfits_of}
use Rattle.rules.specs.Sheet.{book_of, effect_from}
use Rattle.info.proofs.Elements.{kept, element}

pub returns : goal.returns
unfolding book_of
returns c = record { record_i = element effect_from 2 c.args.book.now c.args.pairs.now c.args.i c.requires.inside c.record_of-r.ensures.record_and_width.0 c.offset_of.ensures.defined (λ j. record { number = c.args.i; id = kept (sfits_of c.i32_at.type_inv) c.i32_at.ensures.defined j; category = c.u32_at.ensures.defined j; resistance_attribute_id = kept (sfits_of c.i32_at-2.type_inv) c.i32_at-2.ensures.defined j; usage_chance_attribute_id = kept (sfits_of c.i32_at-3.type_inv) c.i32_at-3.ensures.defined j; first_modifier = c.u32_at-2.ensures.defined j; modifiers = c.u32_at-3.ensures.defined j }) }
