-- `judged` meets its contract: the table first. Assumes nothing.
use Rattle.std.proofs.Common.{map, sym, arith}
use Rattle.std.proofs.lemmas.Result.{err_from_is_err_and}
use Rattle.rules.specs.Sheet.{book_of, fit_of}
use Rattle.tallies.specs.Tallies.{line_of}
use Rattle.tournament.proofs.Rising.{good_ordered}
use Rattle.tournament.proofs.Judging.{judged_rules, judged-lines}
use Rattle.tournament.proofs.judged.Goals as goal

pub returns-in_err-lines_good : goal.returns-in_err-lines_good
returns-in_err-lines_good c =
    let p = err_from_is_err_and c.from_residual.result c.from_residual.ensures.1 in
    record {
      defined = rw (p.1, p.2) (judged_rules (book_of c.args.book.now c.args.pairs.now) (fit_of c.args.fit.now c.args.pairs.now) (map line_of c.args.lines.now) c.in_err-lines_good.ensures.defined);
      no_wrap = rw (p.1, p.2) (omega arith);
    }

pub first_broken-requires-clause-ordered : goal.first_broken-requires-clause-ordered
first_broken-requires-clause-ordered c = good_ordered (map line_of c.args.lines.now) (sym c.in_ok-lines_good.ensures.defined)

pub returns-in_err-first_broken : goal.returns-in_err-first_broken
returns-in_err-first_broken c =
    let p = err_from_is_err_and c.from_residual-in_err-first_broken.result c.from_residual-in_err-first_broken.ensures.1 in
    record {
      defined = rw (p.1, p.2) (judged-lines (book_of c.args.book.now c.args.pairs.now) (fit_of c.args.fit.now c.args.pairs.now) (map line_of c.args.lines.now) (sym c.in_ok-lines_good.ensures.defined) c.in_err-first_broken.ensures.defined);
      no_wrap = rw (p.1, p.2) c.in_err-first_broken.ensures.no_wrap;
    }

pub returns-clause-defined : goal.returns-clause-defined
returns-clause-defined c = judged-lines (book_of c.args.book.now c.args.pairs.now) (fit_of c.args.fit.now c.args.pairs.now) (map line_of c.args.lines.now) (sym c.in_ok-lines_good.ensures.defined) c.in_ok-first_broken.ensures.defined
