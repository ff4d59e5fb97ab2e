-- `records::object` meets its contract. Assumes nothing.
use Rattle.info.proofs.records.object.Goals as goal
use borrow.Author.Rules.{sfits_of}
use Rattle.rules.specs.Sheet.{fit_of, object_from}
use Rattle.info.proofs.Elements.{kept, element}

pub returns : goal.returns
unfolding fit_of
returns c = record { record_i = element object_from 6 c.args.fit.now c.args.pairs.now c.args.i c.requires.inside c.record_of-r.ensures.record_and_width.0 c.offset_of.ensures.defined (λ j. record { number = c.args.i; kind = c.u32_at.ensures.defined j; type_id = kept (sfits_of c.i32_at.type_inv) c.i32_at.ensures.defined j; group_id = kept (sfits_of c.i32_at-2.type_inv) c.i32_at-2.ensures.defined j; category_id = kept (sfits_of c.i32_at-3.type_inv) c.i32_at-3.ensures.defined j; slot = c.u32_at-2.ensures.defined j; quantity = c.u32_at-3.ensures.defined j; state = c.u32_at-4.ensures.defined j; max_state = c.u32_at-5.ensures.defined j; flags = c.u32_at-6.ensures.defined j; mutation_base = kept (sfits_of c.i32_at-4.type_inv) c.i32_at-4.ensures.defined j; projected_effect = kept (sfits_of c.i32_at-5.type_inv) c.i32_at-5.ensures.defined j; first_attribute = c.u32_at-7.ensures.defined j; attributes = c.u32_at-8.ensures.defined j; first_ability = c.u32_at-9.ensures.defined j; abilities = c.u32_at-10.ensures.defined j; first_side_effect = c.u32_at-11.ensures.defined j; side_effects = c.u32_at-12.ensures.defined j }) }
