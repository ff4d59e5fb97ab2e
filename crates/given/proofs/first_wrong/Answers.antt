-- `given::first_wrong` meets its contract. Assumes nothing.
use mathlib.Core.Bool.{not}
use Rattle.given.proofs.first_wrong.Goals as goal
use native.Mathlib.Omega.{arith}
use mathlib.Core.Path.{refl, ◌∙◌, ap}
use Rattle.given.proofs.Rights.{kept_true, with_column, right_on, wrong_at, none_wrong}

pub loop-i-init : goal.loop-i-init
loop-i-init c = ((omega arith, refl), λ h e. refl)

pub returns-then-not-is_right : goal.returns-then-not-is_right
returns-then-not-is_right c = record {
  defined = λ h e. wrong_at h.world h.values c.loop-i.i (omega (arith, c.loop-i-test.true, h.told.held.long)) _ (c.is_right.ensures.defined (with_column h c.loop-i.invariant.0.1) e) (c.loop-i.invariant.1 h e) (ap not c.if-not-is_right.true);
  kept = tt;
}

pub loop-i-preserved : goal.loop-i-preserved
loop-i-preserved c = ((omega (arith, c.loop-i-test.true), kept_true c.is_right.result _ _ (ap not c.if-not-is_right.false) c.is_right.ensures.kept ∙ c.loop-i.invariant.0.1), λ h e. right_on h.world h.values c.loop-i.i (omega (arith, c.loop-i-test.true, h.told.held.long)) _ (c.is_right.ensures.defined (with_column h c.loop-i.invariant.0.1) e) (c.loop-i.invariant.1 h e) (ap not c.if-not-is_right.false))

pub returns : goal.returns
returns c = record {
  defined = λ h e. none_wrong h.world h.values c.loop-i.i (omega (arith, c.loop-i-test.false, h.told.held.long)) (c.loop-i.invariant.1 h e);
  kept = c.loop-i.invariant.0.1;
}
