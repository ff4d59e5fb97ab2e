-- `first_broken` meets its contract: what is left decides. The measure is how many lines are left.
use Rattle.std.proofs.Common.{refl, map, arith}
use Rattle.std.proofs.lemmas.Result.{err_from_is_err_and}
use Rattle.rules.specs.Sheet.{book_of, fit_of}
use Rattle.tallies.specs.Tallies.{line_of, counted}
use Rattle.tournament.proofs.Judging.{reached_none, reached_all, next_less}
use Rattle.tournament.proofs.first_broken.Goals as goal

pub loop-at-init : goal.loop-at-init
loop-at-init c = reached_none (map line_of c.args.lines.now) c.requires.ordered (counted (book_of c.args.book.now c.args.pairs.now) (fit_of c.args.fit.now c.args.pairs.now))

pub in_block-requires : goal.in_block-requires
in_block-requires c = (c.requires.ordered, (c.loop-at-test.true, (c.requires.held_book, (c.requires.held_fit, (refl, c.loop-at.invariant)))))

pub returns-in_err-at : goal.returns-in_err-at
returns-in_err-at c = let p = err_from_is_err_and c.from_residual.result c.from_residual.ensures.1 in record { defined = rw (p.1, p.2) c.in_err-at.ensures.passed.0; no_wrap = rw (p.1, p.2) c.in_err-at.ensures.passed.1 }

pub loop-at-smaller : goal.loop-at-smaller
loop-at-smaller c = next_less c.args.lines.now (counted (book_of c.args.book.now c.args.pairs.now) (fit_of c.args.fit.now c.args.pairs.now)) c.in_ok-at.ensures.passed.0 c.in_ok-at.ensures.passed.1

pub loop-at-preserved : goal.loop-at-preserved
loop-at-preserved c = c.in_ok-at.ensures.passed.1

pub returns : goal.returns
returns c = record {
  defined = reached_all c.args.lines.now c.requires.ordered (counted (book_of c.args.book.now c.args.pairs.now) (fit_of c.args.fit.now c.args.pairs.now)) c.loop-at.invariant c.loop-at-test.false;
  no_wrap = omega arith;
}
