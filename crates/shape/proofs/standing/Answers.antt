-- `shape::standing` meets its contract. Assumes nothing.
use Rattle.shape.proofs.standing.Goals as goal
use native.Mathlib.Omega.{arith}
use Prim.Native.Nat.{◌-◌}
use Rattle.laws.specs.Lists.{from}
use Rattle.rules.specs.Files as rule
use Rattle.shape.proofs.Following.{Stood, stood_first, stood_all, too_many, elsewhere, small, stood_next}

pub loop-t-init : goal.loop-t-init
loop-t-init c = stood_first _ _ _ _ _ (omega (arith, c.requires.some_of_ten.0, c.requires.some_of_ten.1)) c.requires.a_header

pub returns-then-limit-count : goal.returns-then-limit-count
returns-then-limit-count c = record { defined = too_many _ _ c.loop-t.invariant c.loop-t-test.true c.count_of-count.ensures.defined c.offset_of-offset.ensures.defined c.limit_of-limit.ensures.defined c.if-limit-count.true }

pub returns-then-offset-end : goal.returns-then-offset-end
returns-then-offset-end c = record { defined = elsewhere _ _ c.loop-t.invariant c.loop-t-test.true c.count_of-count.ensures.defined c.offset_of-offset.ensures.defined c.limit_of-limit.ensures.defined c.if-offset-end.true c.if-limit-count.false }

pub overflow_mul-end : goal.overflow_mul-end
overflow_mul-end c = omega (arith, small _ _ c.loop-t.invariant c.loop-t-test.true c.count_of-count.ensures.defined c.offset_of-offset.ensures.defined c.limit_of-limit.ensures.defined (omega (arith, c.requires.some_of_ten.0, c.requires.some_of_ten.1, c.loop-t.invariant.within), omega (arith, c.requires.some_of_ten.0, c.requires.some_of_ten.1, c.loop-t-test.true)) c.if-limit-count.false c.width_of.ensures.defined)

pub overflow_add-end : goal.overflow_add-end
overflow_add-end c = omega (arith, small _ _ c.loop-t.invariant c.loop-t-test.true c.count_of-count.ensures.defined c.offset_of-offset.ensures.defined c.limit_of-limit.ensures.defined (omega (arith, c.requires.some_of_ten.0, c.requires.some_of_ten.1, c.loop-t.invariant.within), omega (arith, c.requires.some_of_ten.0, c.requires.some_of_ten.1, c.loop-t-test.true)) c.if-limit-count.false c.width_of.ensures.defined, c.loop-t.invariant.near, c.if-offset-end.false)

pub loop-t-preserved : goal.loop-t-preserved
loop-t-preserved c = stood_next _ _ c.loop-t.invariant c.loop-t-test.true c.count_of-count.ensures.defined c.offset_of-offset.ensures.defined c.limit_of-limit.ensures.defined (omega (arith, c.requires.some_of_ten.0, c.requires.some_of_ten.1, c.loop-t.invariant.within), omega (arith, c.requires.some_of_ten.0, c.requires.some_of_ten.1, c.loop-t-test.true)) c.if-limit-count.false c.width_of.ensures.defined c.if-offset-end.false

pub returns : goal.returns
returns c = record { defined = stood_all _ _ c.loop-t.invariant c.loop-t-test.false }
