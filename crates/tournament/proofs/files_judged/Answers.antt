-- `files_judged` meets its contract: the shapes first. Assumes nothing.
use Rattle.std.proofs.Common.{arith}
use Rattle.std.proofs.lemmas.Result.{err_from_is_err_and}
use Rattle.tournament.proofs.Judging.{files_shape, files_held, files_lines}
use Rattle.tournament.proofs.files_judged.Goals as goal

pub returns-in_err-files_shape : goal.returns-in_err-files_shape
returns-in_err-files_shape c =
    let p = err_from_is_err_and c.from_residual.result c.from_residual.ensures.1 in
    record {
      defined = rw (p.1, p.2) (files_shape c.args.book.now c.args.fit.now c.args.lines.now c.files_shape.ensures.defined c.in_err-files_shape.was);
      no_wrap = rw (p.1, p.2) (omega arith);
    }

pub judged-requires : goal.judged-requires
judged-requires c =
    let both = files_held c.args.book.now c.args.fit.now c.args.lines.now c.files_shape.ensures.defined c.in_ok-files_shape.was c.pairs_in-pairs.ensures.defined in
    record { held_book = both.0; held_fit = both.1 }

pub returns-clause-defined : goal.returns-clause-defined
returns-clause-defined c = files_lines c.args.book.now c.args.fit.now c.args.lines.now c.files_shape.ensures.defined c.in_ok-files_shape.was c.pairs_in-pairs.ensures.defined c.judged.ensures.defined
