-- `operate::added` meets its contract, step by step.
use Rattle.operate.proofs.added.Goals as goal
use mathlib.Core.Path.{sym, ap, ◌∙◌}
use Rattle.rules.specs.Number.{times}
use Rattle.numbers.proofs.Steps.{bound, refused}

pub returns-in_err-v : goal.returns-in_err-v
returns-in_err-v c = record { defined = c.from_residual.ensures ∙ sym (refused _ c.in_err-v.was) }

pub returns-in_err-y : goal.returns-in_err-y
returns-in_err-y c = record { defined = c.from_residual-in_err-y.ensures ∙ sym (bound _ c.in_ok-v.was ∙ refused _ (sym (c.product.ensures.defined ∙ ap (times _) c.as_float.ensures.defined) ∙ c.in_err-y.was)) }

pub returns : goal.returns
returns c = record { defined = c.sum.ensures.defined ∙ sym (bound _ c.in_ok-v.was ∙ bound _ (sym (c.product.ensures.defined ∙ ap (times _) c.as_float.ensures.defined) ∙ c.in_ok-y.was)) }
