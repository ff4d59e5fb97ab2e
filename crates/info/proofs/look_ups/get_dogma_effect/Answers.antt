-- `look_ups::get_dogma_effect` meets its contract. Assumes nothing.
use Rattle.laws.specs.Options.{option_of}
use Rattle.info.proofs.look_ups.get_dogma_effect.Goals as goal
use mathlib.Core.Path.{refl, sym, ap, ◌∙◌}
use lib.Dec.{lit≤}
use Rattle.rules.specs.Sheet.{book_of, effect_from}
use Rattle.rules.specs.Info.{get_dogma_effect}
use Rattle.rules.proofs.Verdicts.{effects_ordered}
use Rattle.info.proofs.Finds.{asked, table_keyed, found_below, found_first, missing-first}

pub find-requires : goal.find-requires
unfolding book_of
find-requires c = record { keyed = table_keyed effect_from (λ r. r.id) (λ k r. refl) 2 (lit≤ tt) c.args.book.now c.args.pairs.now c.offset_of.ensures.defined c.count_of.ensures.defined c.requires.sound_book.held.effects (effects_ordered (book_of c.args.book.now c.args.pairs.now) c.requires.sound_book.good) }

pub returns-in_err-i : goal.returns-in_err-i
unfolding book_of get_dogma_effect
returns-in_err-i c = record { defined = ap option_of c.from_residual.ensures ∙ missing-first effect_from (λ r. r.id) (λ k r. refl) 2 (lit≤ tt) c.args.book.now c.args.pairs.now c.offset_of.ensures.defined c.count_of.ensures.defined c.args.id (asked c.args.book.now c.offset_of.result 24 c.count_of.result c.args.id c.ranges.id (sym (ap option_of c.in_err-i.was) ∙ c.find.ensures.defined)) }

pub effect-requires : goal.effect-requires
effect-requires c = record {
  held_book = c.requires.sound_book.held;
  inside = found_below effect_from (λ r. r.id) (λ k r. refl) 2 (lit≤ tt) c.args.book.now c.args.pairs.now c.offset_of.ensures.defined c.count_of.ensures.defined c.args.id (asked c.args.book.now c.offset_of.result 24 c.count_of.result c.args.id c.ranges.id (sym (ap option_of c.in_ok-i.was) ∙ c.find.ensures.defined));
}

pub returns : goal.returns
unfolding book_of get_dogma_effect
returns c = record { defined = found_first effect_from (λ r. r.id) (λ k r. refl) 2 (lit≤ tt) c.args.book.now c.args.pairs.now c.offset_of.ensures.defined c.count_of.ensures.defined c.args.id (asked c.args.book.now c.offset_of.result 24 c.count_of.result c.args.id c.ranges.id (sym (ap option_of c.in_ok-i.was) ∙ c.find.ensures.defined)) c.effect.ensures.record_i }
