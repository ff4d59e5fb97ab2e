-- `turns::walked` meets its contract.
use Rattle.reading.proofs.turns.walked.Goals as goal
use Rattle.reading.proofs.Shifted.{past_ship, walked_own, walked_projected, walked_owner}

pub returns-then-turn-turns : goal.returns-then-turn-turns
returns-then-turn-turns c = record { defined = walked_own c.args.turns c.args.turn c.if-turn-turns.true }

pub overflow_sub-result : goal.overflow_sub-result
overflow_sub-result c = past_ship c.args.turns c.args.turn c.if-turn-turns.false

pub returns-then-turn-turns-2 : goal.returns-then-turn-turns-2
returns-then-turn-turns-2 c = record { defined = walked_projected c.args.turns c.args.turn c.requires.ordered c.if-turn-turns.false c.if-turn-turns-2.true }

pub returns : goal.returns
returns c = record { defined = walked_owner c.args.turns c.args.turn c.requires.ordered c.if-turn-turns.false c.if-turn-turns-2.false }
