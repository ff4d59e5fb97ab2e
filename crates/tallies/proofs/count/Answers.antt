-- `count` meets its contract: after i objects the sums of the first i stand. Assumes nothing.
use Rattle.std.proofs.Common.{◌≡◌, ℕ, arith, subst}
use Rattle.rules.specs.Bytes.{count_of}
use Rattle.rules.specs.Item.{no_item}
use Rattle.rules.specs.Sheet.{book_of, fit_of}
use Rattle.info.proofs.Elements.{objects_length}
use Rattle.tallies.specs.Blocks.{Summed}
use Rattle.tallies.proofs.Blocks.{summed_skip, summed_more}
use Rattle.tallies.proofs.count.Goals as goal
use Rattle.tallies.proofs.count.Goals.{then-more-gt0, else-more-gt0}

pub categories_of-c-requires : goal.categories_of-c-requires
categories_of-c-requires c = record { a_header = c.requires.held_book.header }

pub loop-i-init : goal.loop-i-init
loop-i-init c = c.requires.none_yet

pub object-o-requires : goal.object-o-requires
object-o-requires c = record {
  held_fit = c.requires.held_fit;
  inside = omega arith;
}

pub add_object-requires : goal.add_object-requires
add_object-requires c = record {
  keyed = c.requires.keyed;
  spanned = c.requires.spanned;
  small = (λ j l. omega (arith, c.loop-i.invariant.small j l));
  long = c.loop-i.invariant.long;
  few = c.pieces-more.ensures.at_most;
}

pub loop-i-preserved : goal.loop-i-preserved
loop-i-preserved c = elim c.if-more-gt0.branch [
  | then-more-gt0 w ↦ rw w.sums-is (summed_more (book_of c.args.book.now c.args.pairs.now) (fit_of c.args.fit.now c.args.pairs.now) c.args.keys.now c.loop-i.invariant (omega (arith, objects_length c.args.fit.now c.args.pairs.now)) (c.object-o.ensures.record_i no_item) (c.pieces-more.ensures.defined (book_of c.args.book.now c.args.pairs.now) c.categories_of-c.ensures.of_the_header) c.pieces-more.ensures.at_most w.add_object.ensures.counted)
  | else-more-gt0 w ↦ rw w.sums-is (summed_skip (book_of c.args.book.now c.args.pairs.now) (fit_of c.args.fit.now c.args.pairs.now) c.args.keys.now c.loop-i.invariant (omega (arith, objects_length c.args.fit.now c.args.pairs.now)) (c.object-o.ensures.record_i no_item) (c.pieces-more.ensures.defined (book_of c.args.book.now c.args.pairs.now) c.categories_of-c.ensures.of_the_header) c.pieces-more.ensures.at_most w.if-more-gt0.false)
]

pub returns : goal.returns
returns c =
    let all : c.loop-i.i ≡ count_of c.args.pairs.now 6 = omega arith in
    record { counted = subst (λ (m : ℕ). Summed (book_of c.args.book.now c.args.pairs.now) (fit_of c.args.fit.now c.args.pairs.now) c.args.keys.now m c.loop-i.sums) all c.loop-i.invariant }
