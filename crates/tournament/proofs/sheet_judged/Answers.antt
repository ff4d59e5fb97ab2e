-- `sheet_judged` meets its contract: the shape first. Assumes nothing.
use Rattle.std.proofs.Common.{arith}
use Rattle.std.proofs.lemmas.Result.{err_from_is_err_and}
use Rattle.tournament.proofs.Judging.{checked_shape, checked_long, checked-held, checked-lines}
use Rattle.tournament.proofs.sheet_judged.Goals as goal

pub returns-in_err-shape : goal.returns-in_err-shape
returns-in_err-shape c =
    let p = err_from_is_err_and c.from_residual.result c.from_residual.ensures.1 in
    record {
      defined = rw (p.1, p.2) (checked_shape c.args.sheet.now c.args.lines.now c.shape.ensures.defined c.in_err-shape.was);
      no_wrap = rw (p.1, p.2) (omega arith);
    }

pub pairs_of-pairs-requires : goal.pairs_of-pairs-requires
pairs_of-pairs-requires c = record { a_header = checked_long c.args.sheet.now c.args.lines.now c.shape.ensures.defined c.in_ok-shape.was }

pub judged-requires : goal.judged-requires
judged-requires c =
    let both = checked-held c.args.sheet.now c.args.lines.now c.shape.ensures.defined c.in_ok-shape.was c.pairs_of-pairs.ensures.defined in
    record { held_book = both.0; held_fit = both.1 }

pub returns-clause-defined : goal.returns-clause-defined
returns-clause-defined c = checked-lines c.args.sheet.now c.args.lines.now c.shape.ensures.defined c.in_ok-shape.was c.pairs_of-pairs.ensures.defined c.judged.ensures.defined
