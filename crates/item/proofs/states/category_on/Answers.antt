-- `states::category_on` meets its contract. Assumes nothing.
use Rattle.item.proofs.states.category_on.Goals as goal

pub returns-then-is_rig-is_passive : goal.returns-then-is_rig-is_passive
returns-then-is_rig-is_passive c = record { defined = rw (← c.is_rig.ensures.defined, ← c.is_passive.ensures.defined, c.if-is_rig-is_passive.true) }

pub returns : goal.returns
returns c = record { defined = rw (← c.is_rig.ensures.defined, ← c.is_passive.ensures.defined, c.if-is_rig-is_passive.false) }
