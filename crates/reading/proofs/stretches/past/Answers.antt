-- `stretches::past` meets its contract. The measure is how many rows are left.
use Rattle.std.proofs.Common.{◌≡◌, ℕ, subst, length, arith}
use Rattle.reading.specs.Stretched.{Past}
use Rattle.reading.proofs.stretches.past.Goals as goal
use Rattle.reading.proofs.Laying.{passed_none, passed-more, passed_here, passed-all}

pub loop-i-init : goal.loop-i-init
loop-i-init c = passed_none c.requires.inside

pub returns-then-own-object : goal.returns-then-own-object
returns-then-own-object c = record { past = passed_here c.loop-i.invariant c.if-own-object.true }

pub loop-i-preserved : goal.loop-i-preserved
loop-i-preserved c = passed-more c.loop-i.invariant c.loop-i-test.true c.if-own-object.false

pub returns : goal.returns
returns c = let e : c.loop-i.i ≡ length c.args.rows.now = omega (arith, c.loop-i-test.false, c.loop-i.invariant.inside) in record { past = subst (λ (x : ℕ). Past c.args.rows.now c.args.object c.args.first x) e (passed-all c.loop-i.invariant c.loop-i-test.false) }
