-- `files::fit_verdict` meets its contract. Assumes nothing.
use Rattle.files.proofs.fit_verdict.Goals as goal
use Rattle.std.proofs.Common.{arith, rules, ◌≡◌, ◌<◌, Err}
use Rattle.std.proofs.iter.Serving.{serving}
use Rattle.shape.specs.declared.BadTable.{BadTable}
use Rattle.shape.proofs.Scans.{passed, failed}
use Rattle.shape.proofs.Shapes.{fit_place}
use Rattle.files.proofs.Judged.{held_fit, fit_header_bad, fit_told}

pub returns-then-not-fit_header_good : goal.returns-then-not-fit_header_good
returns-then-not-fit_header_good c = record { defined = fit_header_bad _ _ (failed c.fit_header_good.ensures.defined c.if-not-fit_header_good.true) }

pub fit_shape-requires : goal.fit_shape-requires
fit_shape-requires c = record { held_fit = held_fit _ _ (passed c.fit_header_good.ensures.defined c.if-not-fit_header_good.false) }

pub map_err-requires : goal.map_err-requires
map_err-requires c = let h : (e : BadTable) → c.fit_shape.result ≡ Err e → e.table < 11 = (λ e w. fit_place _ c.fit_shape.ensures.defined w) in search (serving, arith, h)

pub returns : goal.returns
returns c = record { defined = fit_told _ _ (passed c.fit_header_good.ensures.defined c.if-not-fit_header_good.false) c.fit_shape.ensures.defined _ (λ e x q. search rules) c.map_err.ensures.cases }
