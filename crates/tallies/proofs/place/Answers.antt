-- `place` meets its contract. The measure is how many places are left. Assumes nothing.
use Rattle.tallies.proofs.place.Goals as goal
use Prim.Native.Nat.{◌/◌}
use native.Mathlib.Omega.{arith}
use Rattle.tallies.proofs.Blocks.{bounds_start, bounds_halved, bounds_one, bounds_inside}

pub loop-left-init : goal.loop-left-init
loop-left-init c = (omega arith, bounds_start c.requires.keyed c.requires.below)

pub loop-left-preserved : goal.loop-left-preserved
loop-left-preserved c = (omega (arith, c.loop-left-test.true), bounds_halved c.requires.keyed c.requires.below c.loop-left.low c.loop-left.left (c.loop-left.left / 2) c.loop-left.invariant.1 (omega (arith, c.loop-left-test.true)) (omega arith) c.step-low.ensures.defined)

pub returns : goal.returns
returns c = record {
  defined = bounds_one c.requires.keyed c.requires.below c.loop-left.invariant.1 c.loop-left-test.false;
  inside = bounds_inside c.requires.keyed c.requires.below (bounds_one c.requires.keyed c.requires.below c.loop-left.invariant.1 c.loop-left-test.false);
}
