-- `look_ups::attribute_by` meets its contract. Assumes nothing.
use Rattle.laws.specs.Options.{option_of}
use Rattle.info.proofs.look_ups.attribute_by.Goals as goal
use mathlib.Core.Path.{refl, sym, ap, ◌∙◌}
use mathlib.Core.Option.{get_or}
use lib.Dec.{lit≤}
use Rattle.rules.specs.Sheet.{book_of, attribute_from}
use Rattle.rules.specs.Info.{get_dogma_attribute, missing}
use Rattle.rules.proofs.Verdicts.{attributes_ordered}
use Rattle.info.proofs.Finds.{asked, table_keyed, found_below, found_first, missing-first, made_missing}

pub find-found-requires : goal.find-found-requires
unfolding book_of
find-found-requires c = record { keyed = table_keyed attribute_from (λ r. r.id) (λ k r. refl) 1 (lit≤ tt) c.args.book.now c.args.pairs.now c.offset_of.ensures.defined c.count_of.ensures.defined c.requires.sound_book.held.attributes (attributes_ordered (book_of c.args.book.now c.args.pairs.now) c.requires.sound_book.good) }

pub returns-in_default : goal.returns-in_default
unfolding book_of get_dogma_attribute
returns-in_default c = record { defined = made_missing c.args.id c.ranges.id ∙ ap (λ o. get_or o (missing c.args.id)) (missing-first attribute_from (λ r. r.id) (λ k r. refl) 1 (lit≤ tt) c.args.book.now c.args.pairs.now c.offset_of.ensures.defined c.count_of.ensures.defined c.args.id (asked c.args.book.now c.offset_of.result 24 c.count_of.result c.args.id c.ranges.id (sym (ap option_of c.in_default.is) ∙ c.find-found.ensures.defined))) }

pub attribute-requires : goal.attribute-requires
attribute-requires c = record {
  held_book = c.requires.sound_book.held;
  inside = found_below attribute_from (λ r. r.id) (λ k r. refl) 1 (lit≤ tt) c.args.book.now c.args.pairs.now c.offset_of.ensures.defined c.count_of.ensures.defined c.args.id (asked c.args.book.now c.offset_of.result 24 c.count_of.result c.args.id c.ranges.id (sym (ap option_of c.in-Some.is) ∙ c.find-found.ensures.defined));
}

pub returns : goal.returns
unfolding book_of get_dogma_attribute
returns c = record { defined = ap (λ o. get_or o (missing c.args.id)) (found_first attribute_from (λ r. r.id) (λ k r. refl) 1 (lit≤ tt) c.args.book.now c.args.pairs.now c.offset_of.ensures.defined c.count_of.ensures.defined c.args.id (asked c.args.book.now c.offset_of.result 24 c.count_of.result c.args.id c.ranges.id (sym (ap option_of c.in-Some.is) ∙ c.find-found.ensures.defined)) c.attribute.ensures.record_i) }
