-- `add_idle` meets its contract. Assumes nothing.
use Rattle.gather.proofs.add_idle.Goals as goal
use native.Mathlib.Omega.{arith}
use mathlib.Core.Bool.{false}
use Rattle.std.proofs.lemmas.Result.{err_from_is_err_and}
use Rattle.rules.specs.Value.{to_source}
use Rattle.gather.specs.Piles.{whole, entered}
use Rattle.gather.proofs.Adding.{note_stops, note_goes}

pub returns-in_err-p-clause-defined : goal.returns-in_err-p-clause-defined
unfolding entered
returns-in_err-p-clause-defined c = let p = err_from_is_err_and c.from_residual.result c.from_residual.ensures.1 in λ w counts s₀ f₀ i row high op found g pv ps nv ns t b k fit.
    rw (p.1, p.2) (note_stops w counts s₀ f₀ i row high op found g (whole pv ps nv ns c.args.p.now) _ _ _ _ k b.row (to_source c.args.e c.args.strength false c.args.e.quantity false) g.values _ (rw c.to_source-s.ensures.defined at (c.in_err-p.ensures.defined w counts s₀ f₀ i row g.mem t b k.keeping (λ y. omega (arith, fit y)))))

pub returns-clause-defined : goal.returns-clause-defined
unfolding entered
returns-clause-defined c = λ w counts s₀ f₀ i row high op found g pv ps nv ns t b k fit. note_goes w counts s₀ f₀ i row high op found g (whole pv ps nv ns c.args.p.now) _ _ _ _ k b.row (to_source c.args.e c.args.strength false c.args.e.quantity false) g.values _ _ _ _ (rw c.to_source-s.ensures.defined at (c.in_ok-p.ensures.defined w counts s₀ f₀ i row g.mem t b k.keeping (λ y. omega (arith, fit y)))) k.running k.positive k.negative
