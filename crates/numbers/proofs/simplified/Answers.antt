-- `numbers::simplified` meets its contract, operator by operator.
use Rattle.numbers.proofs.simplified.Goals as goal
use lib.Ieee
use Rattle.rules.specs.Operate.{simplified}

pub returns-in-PreAssign : goal.returns-in-PreAssign
unfolding simplified Ieee.of_bits Ieee.of_int
returns-in-PreAssign c = record { defined = rw c.in-PreAssign.is }

pub returns-in-PreMul : goal.returns-in-PreMul
unfolding simplified Ieee.of_bits Ieee.of_int
returns-in-PreMul c = record { defined = rw c.in-PreMul.is c.difference.ensures.defined }

pub returns-in-PreDiv : goal.returns-in-PreDiv
unfolding simplified Ieee.of_bits Ieee.of_int
returns-in-PreDiv c = record { defined = rw (c.in-PreDiv.is, ← c.quotient.ensures.defined) c.less_one.ensures.defined }

pub returns-in-ModAdd : goal.returns-in-ModAdd
unfolding simplified Ieee.of_bits Ieee.of_int
returns-in-ModAdd c = record { defined = rw c.in-ModAdd.is }

pub returns-in-ModSub : goal.returns-in-ModSub
unfolding simplified Ieee.of_bits Ieee.of_int
returns-in-ModSub c = record { defined = rw c.in-ModSub.is }

pub returns-in-PostMul : goal.returns-in-PostMul
unfolding simplified Ieee.of_bits Ieee.of_int
returns-in-PostMul c = record { defined = rw c.in-PostMul.is c.difference-in-PostMul.ensures.defined }

pub returns-in-PostDiv : goal.returns-in-PostDiv
unfolding simplified Ieee.of_bits Ieee.of_int
returns-in-PostDiv c = record { defined = rw (c.in-PostDiv.is, ← c.quotient-in-PostDiv.ensures.defined) c.less_one-in-PostDiv.ensures.defined }

pub returns-in-PostPercent : goal.returns-in-PostPercent
unfolding simplified Ieee.of_bits Ieee.of_int
returns-in-PostPercent c = record { defined = rw c.in-PostPercent.is c.quotient-in-PostPercent.ensures.defined }

pub returns-in-PostAssign : goal.returns-in-PostAssign
unfolding simplified Ieee.of_bits Ieee.of_int
returns-in-PostAssign c = record { defined = rw c.in-PostAssign.is }
