-- `order::push` meets its contract.
use Rattle.order.proofs.push.Goals as goal
use native.Mathlib.Omega.{arith}
use mathlib.Core.Path.{◌∙◌}
use Rattle.order.proofs.Walks.{walking_on}

pub returns : goal.returns
returns c = record { walking = λ t walking pushable. walking_on walking pushable c.put.ensures.put c.put-2.ensures.put (c.put-2.auto.work ∙ c.put.auto.work) (omega (arith, c.if-work-walk.false)) }
