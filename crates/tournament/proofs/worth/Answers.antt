-- `worth` meets its contract. Assumes nothing.
use Rattle.tournament.proofs.worth.Goals as goal
use native.Mathlib.Omega.{arith}
use Rattle.tournament.proofs.Reading.{worth_price, worth_none, worth_most}

pub overflow_mul-result : goal.overflow_mul-result
overflow_mul-result c = record { fits = omega (arith, worth_most c.requires.few (c.requires.cheap c.if-line-eq-RULE_POINTS.true)) }

pub returns-then-line-eq-RULE_POINTS : goal.returns-then-line-eq-RULE_POINTS
returns-then-line-eq-RULE_POINTS c = record { defined = worth_price c.args.line c.args.sum c.if-line-eq-RULE_POINTS.true }

pub returns : goal.returns
returns c = record { defined = worth_none c.args.line c.args.sum c.if-line-eq-RULE_POINTS.false }
