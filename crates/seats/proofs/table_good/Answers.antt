-- `seats::table_good` meets its contract.
use Rattle.seats.proofs.table_good.Goals as goal
use Rattle.seats.proofs.Gather.{too_many, all_tested}

pub returns-then-n-gt-FREE : goal.returns-then-n-gt-FREE
returns-then-n-gt-FREE c = record { defined = too_many c.args.t c.args.count c.args.stretches.now c.args.pool c.well_formed.0.1.0.1 c.if-n-gt-FREE.true }

pub returns : goal.returns
returns c = record { defined = all_tested c.args.t c.args.count c.args.stretches.now c.args.pool c.well_formed.0.1.0.1 c.if-n-gt-FREE.false c.with_free-free.ensures.defined c.with_pilots-all.ensures.defined c.differ-same.ensures.defined c.ordered-in_order.ensures.defined c.all_inside-within.ensures.defined c.all_clear-clear.ensures.defined c.total-sum.ensures.defined }
