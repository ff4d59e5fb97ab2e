-- `seats::with_pilots` meets its contract.
use Rattle.seats.proofs.with_pilots.Goals as goal
use Rattle.seats.proofs.Gather.{seating_none, seating_next, seating_end}

pub loop-p-init : goal.loop-p-init
loop-p-init c = seating_none _ _

pub loop-p-preserved : goal.loop-p-preserved
loop-p-preserved c = rw c.seat_of.ensures.defined (seating_next c.loop-p.invariant c.well_formed.0.1.0.1 c.loop-p-test.true)

pub returns : goal.returns
returns c = record { defined = seating_end c.loop-p.invariant c.well_formed.0.1.0.1 c.loop-p-test.false }
