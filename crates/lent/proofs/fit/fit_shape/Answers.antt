-- `fit::fit_shape` meets its contract. Assumes nothing.
use Rattle.tables.specs.At.{fit_in}
use Rattle.lent.proofs.fit.fit_shape.Goals as goal
use mathlib.Core.Path.{◌≡◌, ◌∙◌}
use Rattle.std.proofs.Common.{arith, rules, ◌<◌, Err}
use Rattle.std.proofs.iter.Serving.{serving}
use Rattle.shape.specs.declared.BadTable.{BadTable}
use Rattle.tables.specs.Tables.{fit_lent}
use Rattle.shape.proofs.Shapes.{fit_place}
use Rattle.lent.proofs.Verdicts.{fit_header_bad, fit_judged, fit_alike_lem, fit_few, fits_numbers, bad_numbers}

pub returns-then-not-fit_fits : goal.returns-then-not-fit_fits
returns-then-not-fit_fits c = record { defined = fit_header_bad (fit_in c.args.fit c.args.header.now) (c.fit_fits.ensures.defined ∙ fits_numbers (fit_in c.args.fit c.args.header.now)) c.if-not-fit_fits.true }

pub fit_bad-requires : goal.fit_bad-requires
fit_bad-requires c = record {
  alike = fit_alike_lem (fit_in c.args.fit c.args.header.now) (c.fit_fits.ensures.defined ∙ fits_numbers (fit_in c.args.fit c.args.header.now)) c.if-not-fit_fits.false;
  few = fit_few (fit_in c.args.fit c.args.header.now) (c.fit_fits.ensures.defined ∙ fits_numbers (fit_in c.args.fit c.args.header.now)) c.if-not-fit_fits.false;
}

pub map_err-requires : goal.map_err-requires
map_err-requires c = let h : (e : BadTable) → c.fit_bad.result ≡ Err e → e.table < 11 = (λ e w. fit_place (fit_lent (fit_in c.args.fit c.args.header.now)) (c.fit_bad.ensures.defined ∙ bad_numbers (fit_in c.args.fit c.args.header.now)) w) in search (serving, arith, h)

pub returns : goal.returns
returns c = record { defined = fit_judged (fit_in c.args.fit c.args.header.now) (c.fit_fits.ensures.defined ∙ fits_numbers (fit_in c.args.fit c.args.header.now)) c.if-not-fit_fits.false (c.fit_bad.ensures.defined ∙ bad_numbers (fit_in c.args.fit c.args.header.now)) _ (λ e x q. search rules) c.map_err.ensures.cases }
