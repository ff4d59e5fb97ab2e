-- `loops::lowest` meets its contract. The measure is how many rows are left.
use Rattle.loops.proofs.lowest.Goals as goal
use mathlib.Core.Path.{refl, sym, ap, ◌∙◌}
use mathlib.Core.Option.{some}
use native.Mathlib.Omega.{arith}
use lib.ListN.{length}
use Rattle.loops.proofs.Firsts.{left_start, left_found, left_next, left_none}

pub loop-i-init : goal.loop-i-init
loop-i-init c = (omega arith, (refl, (λ j l. omega (arith, c.unmet.ensures.unmet.mark j l), λ h. left_start h.world h.told.held.long)))

pub returns-then-leads_back : goal.returns-then-leads_back
returns-then-leads_back c = record { defined = λ h. ap some (h.told.held.object c.loop-i.i (omega (arith, c.loop-i-test.true, h.told.held.long))) ∙ left_found h.world c.loop-i-test.true (sym (c.leads_back.ensures.defined h) ∙ c.if-leads_back.true) (c.loop-i.invariant.1.1.1 h) }

pub loop-i-preserved : goal.loop-i-preserved
loop-i-preserved c = (omega (arith, c.loop-i-test.true), (c.leads_back.auto.work ∙ c.loop-i.invariant.1.0, (c.leads_back.ensures.earlier, λ h. left_next h.world c.loop-i-test.true (sym (c.leads_back.ensures.defined h) ∙ c.if-leads_back.false) (c.loop-i.invariant.1.1.1 h))))

pub returns : goal.returns
returns c = record { defined = λ h. left_none h.world {n = length c.args.columns.rows.now} {i = c.loop-i.i} (omega (arith, c.loop-i-test.false)) (c.loop-i.invariant.1.1.1 h) }
