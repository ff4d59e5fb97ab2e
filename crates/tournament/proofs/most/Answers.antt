-- `most` meets its contract. Assumes nothing.
use Rattle.tournament.proofs.most.Goals as goal
use Rattle.tournament.proofs.Reading.{most_none, most-number}

pub returns-then-line-eq-RULE_FORBIDDEN : goal.returns-then-line-eq-RULE_FORBIDDEN
returns-then-line-eq-RULE_FORBIDDEN c = record { defined = most_none c.args.line c.if-line-eq-RULE_FORBIDDEN.true }

pub returns : goal.returns
returns c = record { defined = most-number c.args.line c.if-line-eq-RULE_FORBIDDEN.false }
