-- `pass_3::is_high` meets its contract. Assumes nothing.
use Rattle.pass_3.proofs.is_high.Goals as goal
use mathlib.Core.Path.{sym, ap, ◌∙◌}
use mathlib.Core.Bool.{Bool}
use mir.Facts.{to_z-of_z}
use Rattle.rules.specs.Info.{high_is_good}
use Rattle.rules.specs.Operate.{applied}
use Rattle.pass_3.proofs.Assigns.{asks_nothing}

pub returns-then-not-assigns : goal.returns-then-not-assigns
returns-then-not-assigns c = record { asked = asks_nothing c.args.operator (sym c.is_assign-assigns.ensures.defined ∙ c.if-not-assigns.true) _ _ }

pub returns : goal.returns
returns c = record { asked = λ v g. ap (λ (b : Bool). applied b c.args.operator v g) (ap high_is_good (rw (to_z-of_z c.ranges.id) at c.get_dogma_attribute-record.ensures.defined)) }
