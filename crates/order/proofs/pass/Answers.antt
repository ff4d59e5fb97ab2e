-- `order::pass` meets its contract.
use Rattle.order.proofs.pass.Goals as goal
use Rattle.order.proofs.Walks.{walking_pass}

pub returns : goal.returns
returns c = record { walking = λ t walking pushable looking. walking_pass walking pushable looking c.put.ensures.put c.put.auto.work }
