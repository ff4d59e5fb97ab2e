-- `book::book_shape` meets its contract. Assumes nothing.
use Rattle.tables.specs.At.{book_in}
use Rattle.lent.proofs.book.book_shape.Goals as goal
use Rattle.shape.proofs.Scans.{passed}
use mathlib.Core.List.{[]}
use Rattle.lent.proofs.Verdicts.{book_header_bad, book_judged}

pub returns-then-not-book_fits : goal.returns-then-not-book_fits
returns-then-not-book_fits c = record { defined = book_header_bad (book_in c.args.book []) c.book_fits.ensures.defined c.if-not-book_fits.true }

pub book_bad-requires : goal.book_bad-requires
book_bad-requires c = record { fits = passed c.book_fits.ensures.defined c.if-not-book_fits.false }

pub returns : goal.returns
returns c = record { defined = book_judged (book_in c.args.book []) c.book_fits.ensures.defined c.if-not-book_fits.false c.book_bad.ensures.defined }
