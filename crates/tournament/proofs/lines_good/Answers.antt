-- `lines_good` meets its contract: what is left decides. The measure is how many lines are left.
use Rattle.tournament.proofs.lines_good.Goals as goal
use Rattle.tournament.proofs.Judging.{scanned_none, scanned_more, scanned_bad, scanned_all}

pub loop-i-init : goal.loop-i-init
loop-i-init c = scanned_none c.args.lines.now

pub stands-after-requires : goal.stands-after-requires
stands-after-requires c = record { inside = c.loop-i-test.true }

pub returns-then-not-good : goal.returns-then-not-good
returns-then-not-good c = record { defined = scanned_bad c.args.lines.now c.loop-i.invariant c.loop-i-test.true c.stands-after.ensures.defined c.line_good.ensures.defined c.if-not-good.true }

pub loop-i-preserved : goal.loop-i-preserved
loop-i-preserved c = scanned_more c.args.lines.now c.loop-i.invariant c.loop-i-test.true c.stands-after.ensures.defined c.line_good.ensures.defined c.if-not-good.false

pub returns : goal.returns
returns c = record { defined = scanned_all c.args.lines.now c.loop-i.invariant c.loop-i-test.false }
