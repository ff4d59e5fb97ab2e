-- `operate::chosen` meets its contract.
use Rattle.std.proofs.Common.{◌∙◌, refl}
use Rattle.operate.proofs.chosen.Goals as goal
use Rattle.rules.specs.Number.{◌>>=◌}

pub returns-then-not-any : goal.returns-then-not-any
unfolding ◌>>=◌
returns-then-not-any c = record { defined = rw (c.if-not-any.true) }

pub returns-in_err-best : goal.returns-in_err-best
unfolding ◌>>=◌
returns-in_err-best c = record { defined = c.from_residual.ensures ∙ rw (c.if-not-any.false, c.in_err-best.was) refl }

pub returns : goal.returns
unfolding ◌>>=◌
returns c = record { defined = rw (c.if-not-any.false, c.in_ok-best.was, c.better_of.ensures.defined) refl }
