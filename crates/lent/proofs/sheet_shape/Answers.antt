-- `sheet_shape` meets its contract. Assumes nothing.
use Rattle.tables.specs.At.{book_in, fit_in}
use Rattle.lent.proofs.sheet_shape.Goals as goal
use Rattle.std.proofs.lemmas.Result.{err_from_is_err_and}
use Rattle.shape.proofs.Scans.{passed}
use mathlib.Core.Path.{◌∙◌}
use mathlib.Core.List.{[]}
use Rattle.lent.proofs.Verdicts.{sheet_book_header, sheet_fit_header, sheet_book_bad, sheet_fit_judged, sheet_alike, sheet_few, fits_whole}

pub returns-then-not-book_fits : goal.returns-then-not-book_fits
returns-then-not-book_fits c = record { defined = sheet_book_header c.args.header.now (book_in c.args.book []) (fit_in c.args.fit []) c.book_fits.ensures.defined c.if-not-book_fits.true }

pub returns-then-not-fit_fits : goal.returns-then-not-fit_fits
returns-then-not-fit_fits c = record { defined = sheet_fit_header c.args.header.now (book_in c.args.book []) (fit_in c.args.fit []) c.book_fits.ensures.defined c.if-not-book_fits.false (c.fit_fits.ensures.defined ∙ fits_whole c.args.header.now (book_in c.args.book []) (fit_in c.args.fit [])) c.if-not-fit_fits.true }

pub book_bad-requires : goal.book_bad-requires
book_bad-requires c = record { fits = passed c.book_fits.ensures.defined c.if-not-book_fits.false }

pub fit_bad-requires : goal.fit_bad-requires
fit_bad-requires c = record {
  alike = sheet_alike c.args.header.now (book_in c.args.book []) (fit_in c.args.fit []) (c.fit_fits.ensures.defined ∙ fits_whole c.args.header.now (book_in c.args.book []) (fit_in c.args.fit [])) c.if-not-fit_fits.false;
  few = sheet_few c.args.header.now (book_in c.args.book []) (fit_in c.args.fit []) (c.fit_fits.ensures.defined ∙ fits_whole c.args.header.now (book_in c.args.book []) (fit_in c.args.fit [])) c.if-not-fit_fits.false;
}

pub returns-in_err-book_bad : goal.returns-in_err-book_bad
returns-in_err-book_bad c = let p = err_from_is_err_and c.from_residual.result c.from_residual.ensures.1 in record { defined = rw (p.1, p.2) (sheet_book_bad c.args.header.now (book_in c.args.book []) (fit_in c.args.fit []) c.book_fits.ensures.defined c.if-not-book_fits.false (c.fit_fits.ensures.defined ∙ fits_whole c.args.header.now (book_in c.args.book []) (fit_in c.args.fit [])) c.if-not-fit_fits.false c.book_bad.ensures.defined c.in_err-book_bad.was) }

pub returns : goal.returns
returns c = record { defined = sheet_fit_judged c.args.header.now (book_in c.args.book []) (fit_in c.args.fit []) c.book_fits.ensures.defined c.if-not-book_fits.false (c.fit_fits.ensures.defined ∙ fits_whole c.args.header.now (book_in c.args.book []) (fit_in c.args.fit [])) c.if-not-fit_fits.false c.book_bad.ensures.defined c.in_ok-book_bad.was c.fit_bad.ensures.defined }
