-- `tallied` meets its contract. Assumes nothing.
use Rattle.tallies.proofs.tallied.Goals as goal
use native.Mathlib.Omega.{arith}
use mathlib.Core.List.{map}
use lib.ListN.{length-map}
use Rattle.rules.specs.Sheet.{book_of, fit_of}
use Rattle.info.proofs.Elements.{objects_length}
use Rattle.tallies.specs.Tallies.{line_of}
use Rattle.tallies.proofs.Blocks.{laid_none, laid_keyed, laid_spanned, laid_ends, summed_start, told-by, kind_at}

pub lay-n-requires : goal.lay-n-requires
lay-n-requires c = record {
  none_yet = laid_none (map line_of c.args.lines.now) (rw (length-map c.args.lines.now line_of) c.requires.inside);
  inside = c.requires.inside;
}

pub overflow_sub-end : goal.overflow_sub-end
overflow_sub-end c = omega (arith, c.lay-n.ensures.some, c.step.ensures.at_most)

pub overflow_sub-most : goal.overflow_sub-most
overflow_sub-most c = omega (arith, (laid_ends c.args.lines.now c.lay-n.ensures.laid c.lay-n.ensures.some (kind_at c.args.lines.now (omega (arith, c.lay-n.ensures.laid.inside, c.lay-n.ensures.some, c.step.ensures.at_most, length-map c.args.lines.now line_of))) c.step.ensures.defined).0)

pub count-requires : goal.count-requires
count-requires c = record {
  keyed = laid_keyed c.args.lines.now c.lay-n.ensures.laid c.requires.ordered;
  spanned = laid_spanned c.args.lines.now c.lay-n.ensures.laid c.requires.ordered (kind_at c.args.lines.now c.requires.inside) (kind_at c.args.lines.now (omega (arith, c.lay-n.ensures.laid.inside, c.lay-n.ensures.some, c.step.ensures.at_most, length-map c.args.lines.now line_of))) (laid_ends c.args.lines.now c.lay-n.ensures.laid c.lay-n.ensures.some (kind_at c.args.lines.now (omega (arith, c.lay-n.ensures.laid.inside, c.lay-n.ensures.some, c.step.ensures.at_most, length-map c.args.lines.now line_of))) c.step.ensures.defined) (omega arith);
  held_book = c.requires.held_book;
  held_fit = c.requires.held_fit;
  none_yet = summed_start _ _ _ c.requires.none_yet;
}

pub returns : goal.returns
returns c = record { told = told-by (book_of c.args.book.now c.args.pairs.now) (fit_of c.args.fit.now c.args.pairs.now) c.args.lines.now c.lay-n.ensures.laid c.lay-n.ensures.some c.requires.ordered (objects_length c.args.fit.now c.args.pairs.now) c.requires.held_fit.objects.few c.count.ensures.counted }
