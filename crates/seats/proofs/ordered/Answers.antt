-- `seats::ordered` meets its contract.
use Rattle.seats.proofs.ordered.Goals as goal
use native.Mathlib.Omega.{arith}
use Rattle.seats.proofs.Loops.{left_none, ordered_next, ordered_stop, ordered_end}

pub loop-i-init : goal.loop-i-init
loop-i-init c = left_none _ _ _

pub returns-then-long-touching : goal.returns-then-long-touching
returns-then-long-touching c = record { defined = ordered_stop c.args.t c.args.n (omega (arith, c.well_formed.0.1.0.1, c.requires.few)) c.loop-i.i c.loop-i-test.true c.loop-i.invariant c.touches-touching.ensures.defined c.if-long-touching.true }

pub loop-i-preserved : goal.loop-i-preserved
loop-i-preserved c = ordered_next c.args.t c.args.n (omega (arith, c.well_formed.0.1.0.1, c.requires.few)) c.loop-i.i c.loop-i-test.true c.loop-i.invariant c.touches-touching.ensures.defined c.if-long-touching.false

pub returns : goal.returns
returns c = record { defined = ordered_end c.args.t c.args.n (omega (arith, c.well_formed.0.1.0.1, c.requires.few)) c.loop-i.i c.loop-i-test.false c.loop-i.invariant }
