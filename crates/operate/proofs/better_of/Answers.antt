-- `operate::better_of` meets its contract.
use Rattle.operate.proofs.better_of.Goals as goal

pub returns-then-below : goal.returns-then-below
returns-then-below c = record { defined = rw (c.if-high.true, ← c.less-below.ensures.defined, c.if-below.true) }

pub returns-else-below : goal.returns-else-below
returns-else-below c = record { defined = rw (c.if-high.true, ← c.less-below.ensures.defined, c.if-below.false) }

pub returns-then-below-2 : goal.returns-then-below-2
returns-then-below-2 c = record { defined = rw (c.if-high.false, ← c.less-below.ensures.defined, c.if-below-2.true) }

pub returns-else-below-2 : goal.returns-else-below-2
returns-else-below-2 c = record { defined = rw (c.if-high.false, ← c.less-below.ensures.defined, c.if-below-2.false) }
