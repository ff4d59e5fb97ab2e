-- `stretches::set_stretches` meets its contract. The measure is how many objects are left.
use Rattle.reading.proofs.stretches.set_stretches.Goals as goal
use Rattle.reading.proofs.Laying.{laying_none, laying_next, laying_all, laying_short}

pub loop-object-init : goal.loop-object-init
loop-object-init c = laying_none

pub returns-then-rows-first : goal.returns-then-rows-first
returns-then-rows-first c = record { stretched = laying_short c.loop-object.invariant c.if-rows-first.true }

pub past-end-requires : goal.past-end-requires
past-end-requires c = record { inside = c.loop-object.invariant.inside }

pub loop-object-preserved : goal.loop-object-preserved
loop-object-preserved c = laying_next c.loop-object.invariant c.past-end.ensures.past c.index-at.ensures.defined.0 c.loop-object-test.true

pub returns-after-loop-object : goal.returns-after-loop-object
returns-after-loop-object c = record { stretched = laying_all c.loop-object.invariant c.loop-object-test.false }
