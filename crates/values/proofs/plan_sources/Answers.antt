-- `values::plan_sources` meets its contract. Assumes nothing.
use Rattle.values.proofs.plan_sources.Goals as goal
use mathlib.Core.Path.{◌≡◌, refl}
use Rattle.values.proofs.Setting.{planned_is}

pub returns-then-recording : goal.returns-then-recording
returns-then-recording c = record { defined = λ rs D. planned_is _ _ c.if-recording.true _ rs _ _ (c.set_sources.ensures.defined rs D) }

pub returns-else-recording : goal.returns-else-recording
returns-else-recording c = record { defined = λ rs D. planned_is _ _ c.if-recording.false _ rs _ _ refl }
