-- `order::ordered` meets its contract. The measure is how many turns are left.
use Rattle.order.proofs.ordered.Goals as goal
use mathlib.Core.Path.{refl, ◌∙◌}
use native.Mathlib.Omega.{arith}
use borrow.Author.Tests.{leb-true}
use Rattle.order.proofs.Walks.{walking_starts, walking_ends}

pub loop-init : goal.loop-init
loop-init c = (refl, walking_starts (omega (arith, c.unmet.auto.work, c.requires.room.0)) c.requires.room.1 c.unmet.ensures.unmet)

pub returns-then-n-walk : goal.returns-then-n-walk
returns-then-n-walk c = record { ranked = λ h e. walking_ends c.loop.invariant.1 c.if-n-walk.true h }

pub loop-preserved : goal.loop-preserved
loop-preserved c = (c.turn.auto.work ∙ c.loop.invariant.0, c.in-Some.ensures.walking)

pub returns : goal.returns
returns c = record { ranked = λ h e. walking_ends c.loop.invariant.1 (leb-true _ _ e) h }
