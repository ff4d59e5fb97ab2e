use Rattle.pool.proofs.pool.Given as goal
use Rattle.rules.specs.Pool.{astray}
use Rattle.pool.proofs.Below.{Failing}

abbrev pub invariant-loop-p : goal.invariant-loop-p
invariant-loop-p l = Failing (astray l.rooms l.stretches) 16 l.p
