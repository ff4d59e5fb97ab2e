-- `seats::shut` meets its contract.
use Rattle.seats.proofs.shut.Goals as goal
use native.Mathlib.Omega.{arith}
use Rattle.seats.proofs.Down.{moving_none, moving_next, moving_end}

pub loop-j-init : goal.loop-j-init
loop-j-init c = moving_none _ _ _ (omega (arith, c.requires.one_of.0))

pub loop-j-preserved : goal.loop-j-preserved
loop-j-preserved c = moving_next c.loop-j.invariant (omega (arith, c.loop-j-test.true))

pub returns : goal.returns
returns c = record { defined = moving_end c.loop-j.invariant c.loop-j-test.false }
