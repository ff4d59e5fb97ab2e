-- `operate::multiplied` meets its contract, step by step.
use Rattle.operate.proofs.multiplied.Goals as goal
use mathlib.Core.Path.{sym, ◌∙◌}
use lib.Ieee
use Rattle.numbers.proofs.Steps.{bound, refused}

pub returns-in_err-v : goal.returns-in_err-v
unfolding Ieee.of_bits
returns-in_err-v c = record { defined = c.from_residual.ensures ∙ sym (refused _ c.in_err-v.was) }

pub returns-in_err-y : goal.returns-in_err-y
unfolding Ieee.of_bits
returns-in_err-y c = record { defined = c.from_residual-in_err-y.ensures ∙ sym (bound _ c.in_ok-v.was ∙ refused _ (sym c.sum.ensures.defined ∙ c.in_err-y.was)) }

pub returns-in_err-z : goal.returns-in_err-z
unfolding Ieee.of_bits
returns-in_err-z c = record { defined = c.from_residual-in_err-z.ensures ∙ sym (bound _ c.in_ok-v.was ∙ bound _ (sym c.sum.ensures.defined ∙ c.in_ok-y.was) ∙ refused _ (sym c.power.ensures.defined ∙ c.in_err-z.was)) }

pub returns : goal.returns
unfolding Ieee.of_bits
returns c = record { defined = c.product.ensures.defined ∙ sym (bound _ c.in_ok-v.was ∙ bound _ (sym c.sum.ensures.defined ∙ c.in_ok-y.was) ∙ bound _ (sym c.power.ensures.defined ∙ c.in_ok-z.was)) }
