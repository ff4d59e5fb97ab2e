-- `dispatch::room::base_total` meets its contract.
use Rattle.dispatch.proofs.room.base_total.Goals as goal
use native.Mathlib.Omega.{arith}
use Rattle.dispatch.proofs.Bases.{base_next, base_all}

pub loop-i-preserved : goal.loop-i-preserved
loop-i-preserved c = (omega (arith, c.count_of-objects.ensures.defined, c.loop-i-test.true), base_next c.args.fit.now c.args.pairs.now c.requires.sound_fit c.loop-i.i (omega (arith, c.count_of-objects.ensures.defined, c.loop-i-test.true)) c.object-o.result c.object-o.ensures.record_i c.index-attributes.result c.index-attributes.ensures.defined.0 c.loop-i.total c.loop-i.invariant.1, omega (arith, c.loop-i.invariant.2, c.index-attributes.ensures.defined.1))

pub returns : goal.returns
returns c = record { defined = base_all c.args.fit.now c.args.pairs.now c.requires.sound_fit c.loop-i.i (omega (arith, c.count_of-objects.ensures.defined, c.loop-i-test.false)) c.loop-i.total c.loop-i.invariant.1 }
