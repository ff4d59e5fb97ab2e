-- `digits` meets its contract.
use Rattle.lines.proofs.fields.digits.Goals as goal
use native.Mathlib.Omega.{arith}
use Rattle.lines.proofs.Going.{going_start, going_times, going_more, going_stop, going_end}

pub loop-i-init : goal.loop-i-init
loop-i-init c = going_start _ _ _ _ (omega arith)

pub returns-then-base-d : goal.returns-then-base-d
returns-then-base-d c = record {
  defined = going_stop _ _ _ _ c.loop-i.invariant c.loop-i-test.true (omega arith) (omega arith) c.digit-d.ensures.defined c.if-base-d.true;
  onward = c.loop-i.invariant.low;
  inside = omega (arith, c.loop-i.invariant.high);
  at_most = c.loop-i.invariant.small;
}

pub overflow_mul-value : goal.overflow_mul-value
overflow_mul-value c = omega (arith, going_times _ _ _ _ c.loop-i.invariant c.requires.few (omega arith) c.requires.small)

pub overflow_add-value : goal.overflow_add-value
overflow_add-value c = omega (arith, going_times _ _ _ _ c.loop-i.invariant c.requires.few (omega arith) c.requires.small, c.digit-d.ensures.at_most)

pub loop-i-preserved : goal.loop-i-preserved
loop-i-preserved c = going_more _ _ _ _ c.loop-i.invariant c.loop-i-test.true (omega arith) (omega arith) c.digit-d.ensures.defined c.requires.small (omega (arith, c.if-base-d.false))

pub returns : goal.returns
returns c = let both = going_end _ _ _ _ c.loop-i.invariant c.loop-i-test.false c.min-end.ensures in record {
  defined = both.0;
  onward = omega (arith, c.loop-i.invariant.low, c.loop-i.invariant.high);
  inside = omega arith;
  at_most = both.1;
}
