use Rattle.numbers.proofs.power.Given as goal
use Rattle.rules.specs.Number.{power}
use Rattle.numbers.proofs.Powers.{Left}

abbrev pub invariant-loop-digits : goal.invariant-loop-digits
invariant-loop-digits l = Left l.r l.base l.digits (power l.x l.n)

abbrev pub decreases-loop-digits : goal.decreases-loop-digits
decreases-loop-digits l = l.digits
