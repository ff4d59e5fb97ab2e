-- `tally` meets its contract. Assumes nothing.
use Rattle.tournament.proofs.tally.Goals as goal
use Rattle.tournament.proofs.Reading.{tally-total, tally-sum}

pub returns-then-line-eq-RULE_TOTAL : goal.returns-then-line-eq-RULE_TOTAL
returns-then-line-eq-RULE_TOTAL c = record { defined = tally-total c.args.line c.args.points c.args.sum c.if-line-eq-RULE_TOTAL.true }

pub returns-else-line-eq-RULE_TOTAL : goal.returns-else-line-eq-RULE_TOTAL
returns-else-line-eq-RULE_TOTAL c = record { defined = tally-sum c.args.line c.args.points c.args.sum c.if-line-eq-RULE_TOTAL.false }
