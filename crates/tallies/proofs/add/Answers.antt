-- `add` meets its contract. Assumes nothing.
use Rattle.tallies.proofs.add.Goals as goal
use native.Mathlib.Omega.{arith}
use Rattle.tallies.proofs.Blocks.{added-by, added_none}

pub overflow_add-sums : goal.overflow_add-sums
overflow_add-sums c = record { fits = omega (arith, c.requires.small c.place-at.result c.place-at.ensures.inside, c.many.ensures.at_most, c.requires.few) }

pub returns-then-sought : goal.returns-then-sought
returns-then-sought c = record { added = added-by c.requires.keyed c.requires.below c.args.sums.now c.args.more c.place-at.ensures.defined c.place-at.ensures.inside c.many.ensures.defined }

pub returns-else-sought : goal.returns-else-sought
returns-else-sought c = record { added = added_none c.args.sums.now c.args.more (c.requires.absent c.if-sought.false) }
