-- `numbers::is_smaller` meets its contract.
use Rattle.numbers.proofs.is_smaller.Goals as goal
use Rattle.std.proofs.Common.{ap₂}
use lib.Ieee.{lt}
use Rattle.laws.specs.Floats.{smaller}

pub returns : goal.returns
unfolding smaller
returns c = record { defined = ap₂ lt c.size.ensures.defined c.size-2.ensures.defined }
