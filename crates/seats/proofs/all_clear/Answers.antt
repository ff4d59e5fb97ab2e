-- `seats::all_clear` meets its contract.
use Rattle.seats.proofs.all_clear.Goals as goal
use native.Mathlib.Omega.{arith}
use mathlib.Core.Path.{sym}
use Rattle.seats.proofs.Loops.{left_none, left_end, clear_next, clear_stop}

pub loop-i-init : goal.loop-i-init
loop-i-init c = left_none _ _ _

pub returns-then-not-clear_later : goal.returns-then-not-clear_later
returns-then-not-clear_later c = record { defined = clear_stop c.loop-i.invariant (omega (arith, c.well_formed.0.1.0.1, c.loop-i-test.true)) c.clear_later.ensures.defined c.if-not-clear_later.true }

pub loop-i-preserved : goal.loop-i-preserved
loop-i-preserved c = clear_next c.loop-i.invariant (omega (arith, c.well_formed.0.1.0.1, c.loop-i-test.true)) c.clear_later.ensures.defined c.if-not-clear_later.false

pub returns : goal.returns
returns c = record { defined = sym (left_end c.loop-i.invariant (omega (arith, c.well_formed.0.1.0.1, c.loop-i-test.false))) }
