-- `seats::total` meets its contract.
use Rattle.seats.proofs.total.Goals as goal
use native.Mathlib.Omega.{arith}
use Rattle.seats.proofs.Loops.{summing_none, summing_next, summing_end}

pub loop-s-init : goal.loop-s-init
loop-s-init c = summing_none _

pub overflow_add-sum : goal.overflow_add-sum
overflow_add-sum c = omega arith

pub loop-s-preserved : goal.loop-s-preserved
loop-s-preserved c = summing_next c.loop-s.invariant (omega (arith, c.well_formed.0.1.0.1, c.loop-s-test.true)) (omega arith)

pub returns : goal.returns
returns c = record { defined = summing_end c.loop-s.invariant (omega (arith, c.well_formed.0.1.0.1, c.loop-s-test.false)) }
