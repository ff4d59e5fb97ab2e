-- `shape::shape` meets its contract. Assumes nothing.
use Rattle.shape.proofs.shape.Goals as goal
use Rattle.std.proofs.lemmas.Result.{err_from_is_err_and}
use Rattle.shape.proofs.Scans.{passed, failed}
use Rattle.shape.proofs.Headers.{held_book, held_fit}
use Rattle.shape.proofs.Shapes.{too_short, header_bad, book_bad_lem, book_good}

pub returns-then-b-lt100 : goal.returns-then-b-lt100
returns-then-b-lt100 c = record { defined = too_short _ c.if-b-lt100.true }

pub returns-then-not-header_good : goal.returns-then-not-header_good
returns-then-not-header_good c = record { defined = header_bad _ c.pairs_of-pairs.ensures.defined (failed c.header_good.ensures.defined c.if-not-header_good.true) }

pub book_shape-requires : goal.book_shape-requires
book_shape-requires c = record { held_book = held_book _ _ (passed c.header_good.ensures.defined c.if-not-header_good.false) }

pub fit_shape-requires : goal.fit_shape-requires
fit_shape-requires c = record { held_fit = held_fit _ _ (passed c.header_good.ensures.defined c.if-not-header_good.false) }

pub returns-in_err-book_shape : goal.returns-in_err-book_shape
returns-in_err-book_shape c = let p = err_from_is_err_and c.from_residual.result c.from_residual.ensures.1 in record { defined = rw (p.1, p.2) (book_bad_lem _ c.pairs_of-pairs.ensures.defined (passed c.header_good.ensures.defined c.if-not-header_good.false) c.book_shape.ensures.defined c.in_err-book_shape.was) }

pub returns : goal.returns
returns c = record { defined = book_good _ c.pairs_of-pairs.ensures.defined (passed c.header_good.ensures.defined c.if-not-header_good.false) c.book_shape.ensures.defined c.in_ok-book_shape.was c.fit_shape.ensures.defined }
