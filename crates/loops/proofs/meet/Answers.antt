-- `loops::meet` meets its contract. The measure is how many slots are left.
use Rattle.loops.proofs.meet.Goals as goal
use Prim.Native.Nat.{◌<◌}
use mathlib.Core.Path.{refl, sym, ap, ◌∙◌}
use mathlib.Core.Option.{some}
use native.Mathlib.Omega.{arith}
use lib.ListN.{length}
use Rattle.order.proofs.Walks.{found_inside}
use Rattle.loops.proofs.Spreads.{take-inside, spread_take, spread_pass, spread_met, spread_done, spread_back}

pub loop-s-init : goal.loop-s-init
loop-s-init c = (omega arith, (refl, spread_take c.requires.spreading c.index-at.ensures.defined.0 refl c.requires.within.1))

pub loop-s-preserved-in_default : goal.loop-s-preserved-in_default
loop-s-preserved-in_default c = (omega (arith, c.loop-s-test.true), (c.loop-s.invariant.1.0, spread_pass c.loop-s.invariant.1.1 (λ h. c.in_default.ensures.defined h)))

pub returns-then-k-row : goal.returns-then-k-row
returns-then-k-row c = record { meets = (λ h. spread_back c.loop-s.invariant.1.1 (take-inside c.requires.spreading c.index-at.ensures.defined.0 c.requires.within.1) (λ h. ap some (sym c.if-k-row.true) ∙ (c.in-Some.ensures.defined h)) h, c.loop-s.invariant.1.1.marks) }

pub queued-last-requires-clause-inside : goal.queued-last-requires-clause-inside
queued-last-requires-clause-inside c =
    let within : c.in-Some.k < length c.args.columns.now.rows.now = found_inside c.requires.holding c.index-at.result c.loop-s.s c.in-Some.k (c.in-Some.ensures.defined c.requires.holding) in
    (omega (arith, c.loop-s.invariant.1.1.long), omega (arith, c.loop-s.invariant.1.1.few))

pub loop-s-preserved : goal.loop-s-preserved
loop-s-preserved c = (omega (arith, c.loop-s-test.true), (c.queued-last.auto.work ∙ c.loop-s.invariant.1.0, spread_met c.loop-s.invariant.1.1 c.in-Some.k (take-inside c.requires.spreading c.index-at.ensures.defined.0 c.requires.within.1) (found_inside c.requires.holding c.index-at.result c.loop-s.s c.in-Some.k (c.in-Some.ensures.defined c.requires.holding)) (λ h. c.in-Some.ensures.defined h) c.if-k-row.false c.queued-last.ensures.queued c.queued-last.auto.work))

pub returns : goal.returns
returns c = record { meets = spread_done c.loop-s.invariant.1.1 (take-inside c.requires.spreading c.index-at.ensures.defined.0 c.requires.within.1) (omega (arith, c.loop-s-test.false, c.slots_of-slots.ensures.defined)) }
