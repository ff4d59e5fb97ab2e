-- `numbers::product_if` meets its contract.
use Rattle.numbers.proofs.product_if.Goals as goal
use Rattle.rules.specs.Number.{times_if}

pub returns-then-wanted : goal.returns-then-wanted
unfolding times_if
returns-then-wanted c = record { defined = rw c.if-wanted.true c.product.ensures.defined }

pub returns-else-wanted : goal.returns-else-wanted
unfolding times_if
returns-else-wanted c = record { defined = rw c.if-wanted.false }
