-- `operate::stepped` meets its contract, operator by operator.
use Rattle.operate.proofs.stepped.Goals as goal

pub returns-in-PreAssign : goal.returns-in-PreAssign
returns-in-PreAssign c = record { defined = rw c.in-PreAssign.is c.chosen.ensures.defined }

pub returns-in-PreMul : goal.returns-in-PreMul
returns-in-PreMul c = record { defined = rw c.in-PreMul.is c.multiplied.ensures.defined }

pub returns-in-PreDiv : goal.returns-in-PreDiv
returns-in-PreDiv c = record { defined = rw c.in-PreDiv.is c.multiplied-in-PreDiv.ensures.defined }

pub returns-in-ModAdd : goal.returns-in-ModAdd
returns-in-ModAdd c = record { defined = rw c.in-ModAdd.is c.added.ensures.defined }

pub returns-in-ModSub : goal.returns-in-ModSub
returns-in-ModSub c = record { defined = rw c.in-ModSub.is c.added-in-ModSub.ensures.defined }

pub returns-in-PostMul : goal.returns-in-PostMul
returns-in-PostMul c = record { defined = rw c.in-PostMul.is c.multiplied-in-PostMul.ensures.defined }

pub returns-in-PostDiv : goal.returns-in-PostDiv
returns-in-PostDiv c = record { defined = rw c.in-PostDiv.is c.multiplied-in-PostDiv.ensures.defined }

pub returns-in-PostPercent : goal.returns-in-PostPercent
returns-in-PostPercent c = record { defined = rw c.in-PostPercent.is c.multiplied-in-PostPercent.ensures.defined }

pub returns-in-PostAssign : goal.returns-in-PostAssign
returns-in-PostAssign c = record { defined = rw c.in-PostAssign.is c.chosen-in-PostAssign.ensures.defined }
