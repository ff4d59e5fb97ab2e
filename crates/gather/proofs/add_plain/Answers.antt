-- `add_plain` meets its contract. Assumes nothing.
use Rattle.gather.proofs.add_plain.Goals as goal
use native.Mathlib.Omega.{arith}
use mathlib.Core.Path.{sym}
use mathlib.Core.Bool.{true, false}
use Rattle.std.proofs.lemmas.Result.{err_from_is_err_and}
use Rattle.rules.specs.Value as values
use Rattle.rules.specs.Value.{with_stack, to_source}
use Rattle.gather.specs.Piles.{whole}
use Rattle.gather.proofs.Adding.{note_stops, note_goes, stack_positive, stack_negative}

pub returns-in_err-counts-clause-defined : goal.returns-in_err-counts-clause-defined
unfolding values.unpenalised
returns-in_err-counts-clause-defined c = let p = err_from_is_err_and c.from_residual.result c.from_residual.ensures.1 in λ w counts s₀ f₀ i row op found g pv ps nv ns t b x o k fit.
    rw (p.1, p.2) (note_stops w counts s₀ f₀ i row c.args.high op found g (whole pv ps nv ns c.args.p.now) _ _ _ _ k b.row (to_source c.args.e c.args.strength true c.args.e.quantity false) (with_stack c.args.x c.args.e.quantity g.values) _ (rw c.to_source-s.ensures.defined at (c.in_err-counts.ensures.defined w counts s₀ f₀ i row g.mem t b k.keeping (λ y. omega (arith, fit y)))))

pub returns-clause-defined : goal.returns-clause-defined
unfolding values.unpenalised
returns-clause-defined c = λ w counts s₀ f₀ i row op found g pv ps nv ns t b x o k fit. note_goes w counts s₀ f₀ i row c.args.high op found g (whole pv ps nv ns c.args.p.now) _ _ _ _ k b.row (to_source c.args.e c.args.strength true c.args.e.quantity false) (with_stack c.args.x c.args.e.quantity g.values) _ _ _ _ (rw c.to_source-s.ensures.defined at (c.in_ok-counts.ensures.defined w counts s₀ f₀ i row g.mem t b k.keeping (λ y. omega (arith, fit y)))) (rw (sym o) (c.put_value.ensures.defined found g.values x (rw o k.running))) (rw (c.put_value.ensures.kept.1, stack_positive c.args.x c.args.e.quantity g.values) k.positive) (rw (c.put_value.ensures.kept.2, stack_negative c.args.x c.args.e.quantity g.values) k.negative)
