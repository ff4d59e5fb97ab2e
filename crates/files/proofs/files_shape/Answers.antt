-- `files::files_shape` meets its contract. Assumes nothing.
use Rattle.files.proofs.files_shape.Goals as goal
use Rattle.std.proofs.lemmas.Result.{err_from_is_err_and}
use Rattle.files.proofs.Judged.{book_bad_lem, book_sound}

pub returns-in_err-book_verdict : goal.returns-in_err-book_verdict
returns-in_err-book_verdict c = let p = err_from_is_err_and c.from_residual.result c.from_residual.ensures.1 in record { defined = rw (p.1, p.2) (book_bad_lem _ _ c.requires.read c.book_verdict.ensures.defined c.in_err-book_verdict.was) }

pub returns : goal.returns
returns c = record { defined = book_sound _ _ c.requires.read c.book_verdict.ensures.defined c.in_ok-book_verdict.was c.fit_verdict.ensures.defined }
