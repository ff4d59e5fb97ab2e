-- `add_running` meets its contract. Assumes nothing.
use Rattle.gather.proofs.add_running.Goals as goal
use mathlib.Core.Bool.{Bool, ◌&&◌}
use mathlib.Core.Path.{refl, sym, ap, ◌∙◌}
use Rattle.gather.proofs.Adding.{not_finite, with_penalty_lem, without_penalty, finite_of, count_penalty, count_plain}

pub returns-then-e-has_penalty-clause-defined : goal.returns-then-e-has_penalty-clause-defined
returns-then-e-has_penalty-clause-defined c = λ w counts s₀ f₀ i row op found g t b o e h k fit. rw (with_penalty_lem w i row c.args.e c.args.strength g _ (sym c.simplified.ensures.defined ∙ c.in-Some.is) (ap (λ (y : Bool). c.args.e.penalty && y) (sym c.has_penalty.ensures.defined) ∙ c.if-e-has_penalty.true)) (c.add_penalised.ensures.defined w counts s₀ f₀ i row c.args.high op found g t b (finite_of c.args.e.operator c.args.strength _ h (sym c.simplified.ensures.defined ∙ c.in-Some.is)) k (λ y. rw (count_penalty c.args.e (ap (λ (y : Bool). c.args.e.penalty && y) (sym c.has_penalty.ensures.defined) ∙ c.if-e-has_penalty.true)) at (fit y)))

pub returns-clause-defined : goal.returns-clause-defined
returns-clause-defined c = λ w counts s₀ f₀ i row op found g t b o e h k fit. rw (without_penalty w i row c.args.e c.args.strength g _ (sym c.simplified.ensures.defined ∙ c.in-Some.is) (ap (λ (y : Bool). c.args.e.penalty && y) (sym c.has_penalty.ensures.defined) ∙ c.if-e-has_penalty.false)) (c.add_plain.ensures.defined w counts s₀ f₀ i row op found g _ _ _ _ t b (finite_of c.args.e.operator c.args.strength _ h (sym c.simplified.ensures.defined ∙ c.in-Some.is)) e k (λ y. rw (count_plain c.args.e (ap (λ (y : Bool). c.args.e.penalty && y) (sym c.has_penalty.ensures.defined) ∙ c.if-e-has_penalty.false)) at (fit y)))

pub returns-in_default-clause-defined : goal.returns-in_default-clause-defined
returns-in_default-clause-defined c = λ w counts s₀ f₀ i row op found g t b o e h k fit. rw (not_finite w i row c.args.e c.args.strength g (sym c.simplified.ensures.defined ∙ c.in_default.is), o) refl
