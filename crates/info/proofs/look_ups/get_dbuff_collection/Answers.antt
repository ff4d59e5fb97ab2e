-- `look_ups::get_dbuff_collection` meets its contract. Assumes nothing.
use Rattle.laws.specs.Options.{option_of}
use Rattle.info.proofs.look_ups.get_dbuff_collection.Goals as goal
use mathlib.Core.Path.{refl, sym, ap, ◌∙◌}
use lib.Dec.{lit≤}
use Rattle.rules.specs.Sheet.{book_of, buff_collection_from}
use Rattle.rules.specs.Info.{get_dbuff_collection}
use Rattle.rules.proofs.Verdicts.{buff_collections_ordered}
use Rattle.info.proofs.Finds.{asked, table_keyed, found_below, found_first, missing-first}

pub find-requires : goal.find-requires
unfolding book_of
find-requires c = record { keyed = table_keyed buff_collection_from (λ r. r.id) (λ k r. refl) 5 (lit≤ tt) c.args.book.now c.args.pairs.now c.offset_of.ensures.defined c.count_of.ensures.defined c.requires.sound_book.held.buff_collections (buff_collections_ordered (book_of c.args.book.now c.args.pairs.now) c.requires.sound_book.good) }

pub returns-in_err-i : goal.returns-in_err-i
unfolding book_of get_dbuff_collection
returns-in_err-i c = record { defined = ap option_of c.from_residual.ensures ∙ missing-first buff_collection_from (λ r. r.id) (λ k r. refl) 5 (lit≤ tt) c.args.book.now c.args.pairs.now c.offset_of.ensures.defined c.count_of.ensures.defined c.args.id (asked c.args.book.now c.offset_of.result 16 c.count_of.result c.args.id c.ranges.id (sym (ap option_of c.in_err-i.was) ∙ c.find.ensures.defined)) }

pub buff_collection-requires : goal.buff_collection-requires
buff_collection-requires c = record {
  held_book = c.requires.sound_book.held;
  inside = found_below buff_collection_from (λ r. r.id) (λ k r. refl) 5 (lit≤ tt) c.args.book.now c.args.pairs.now c.offset_of.ensures.defined c.count_of.ensures.defined c.args.id (asked c.args.book.now c.offset_of.result 16 c.count_of.result c.args.id c.ranges.id (sym (ap option_of c.in_ok-i.was) ∙ c.find.ensures.defined));
}

pub returns : goal.returns
unfolding book_of get_dbuff_collection
returns c = record { defined = found_first buff_collection_from (λ r. r.id) (λ k r. refl) 5 (lit≤ tt) c.args.book.now c.args.pairs.now c.offset_of.ensures.defined c.count_of.ensures.defined c.args.id (asked c.args.book.now c.offset_of.result 16 c.count_of.result c.args.id c.ranges.id (sym (ap option_of c.in_ok-i.was) ∙ c.find.ensures.defined)) c.buff_collection.ensures.record_i }
