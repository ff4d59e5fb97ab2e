-- `loops::leads_back` meets its contract. The measure is how much of the queue is left.
use Rattle.loops.proofs.leads_back.Goals as goal
use Prim.Native.Nat.{◌+◌}
use mathlib.Core.Path.{refl, sym, ◌∙◌}
use native.Mathlib.Omega.{arith}
use Rattle.loops.proofs.Queues.{unmarked_few}
use Rattle.loops.proofs.Spreads.{spread_starts, spread_ends}

pub queued-end-requires-clause-room : goal.queued-end-requires-clause-room
queued-end-requires-clause-room c = omega (arith, unmarked_few (c.args.row + 1) c.args.work.now)

pub loop-head-init : goal.loop-head-init
loop-head-init c = (refl, spread_starts c.requires.room.0 c.requires.room.1 c.requires.within c.requires.earlier c.queued-end.ensures.queued c.queued-end.auto.work)

pub loop-head-preserved : goal.loop-head-preserved
loop-head-preserved c = (c.meet.auto.work ∙ c.loop-head.invariant.0, c.in-Some.ensures.meets)

pub returns : goal.returns
returns c = record {
  defined = λ h. sym (spread_ends c.loop-head.invariant.1 refl (omega (arith, c.loop-head-test.false)) c.requires.within h);
  earlier = c.loop-head.invariant.1.marks;
}
