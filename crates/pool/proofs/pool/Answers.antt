-- `pool::pool` meets its contract.
use Rattle.pool.proofs.pool.Goals as goal
use Rattle.pool.proofs.Below.{failing_none, failing_next, passing, all_failing}
use Rattle.pool.proofs.Answers.{not-seated, one-astray, none_astray}

pub returns-then-not-seated : goal.returns-then-not-seated
returns-then-not-seated c = record { defined = not-seated _ _ _ c.seated.ensures.defined c.if-not-seated.true }

pub loop-p-init : goal.loop-p-init
loop-p-init c = failing_none _ _

pub returns-then-astray : goal.returns-then-astray
returns-then-astray c = record { defined = one-astray _ _ _ c.seated.ensures.defined c.if-not-seated.false (passing c.loop-p.invariant c.loop-p-test.true c.astray.ensures.defined c.if-astray.true) }

pub loop-p-preserved : goal.loop-p-preserved
loop-p-preserved c = failing_next c.loop-p.invariant c.loop-p-test.true c.astray.ensures.defined c.if-astray.false

pub returns : goal.returns
returns c = record { defined = none_astray _ _ _ c.seated.ensures.defined c.if-not-seated.false (all_failing c.loop-p.invariant c.loop-p-test.false) }
