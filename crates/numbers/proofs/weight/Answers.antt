-- `numbers::weight` meets its contract, by its table.
use Rattle.numbers.proofs.weight.Goals as goal
use lib.Ieee
use Rattle.numbers.proofs.Weights.{weighs, past}

pub returns-then-p-lt8 : goal.returns-then-p-lt8
unfolding Ieee.of_bits
returns-then-p-lt8 c = record { defined = weighs _ c.if-p-lt8.true }

pub returns-else-p-lt8 : goal.returns-else-p-lt8
unfolding Ieee.of_bits
returns-else-p-lt8 c = record { defined = past _ c.if-p-lt8.false }
