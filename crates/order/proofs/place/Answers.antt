-- `order::place` meets its contract.
use Rattle.order.proofs.place.Goals as goal
use native.Mathlib.Omega.{arith}
use mathlib.Core.Path.{◌∙◌}
use Rattle.order.proofs.Walks.{walking_place}

pub returns : goal.returns
returns c = record { walking = λ t long walking pushable looked. walking_place walking pushable looked (omega (arith, long, c.if-n-walk.false)) c.put.ensures.put c.put-2.ensures.put c.put-3.ensures.put (c.put-3.auto.work ∙ c.put-2.auto.work ∙ c.put.auto.work) }
