-- `narrowed` meets its contract. The measure is how many rows are left.
use Rattle.search.proofs.narrowed.Goals as goal
use Prim.Native.Nat.{◌+◌, ◌/◌, ◌≤◌}
use native.Mathlib.Nat.{zero-add}
use native.Mathlib.Omega.{arith}
use mir.Syntax.{w32}
use mir.Val.{to_z}
use lib.ListN.{length}
use Rattle.search.specs.Bounds.{Lower}
use Rattle.search.proofs.Steps.{lower_start, lower_own, lower_narrowed, told_less}

pub loop-left-init : goal.loop-left-init
loop-left-init c = (omega arith, rw (zero-add (length c.args.rows.now)) (lower_start _ _))

pub loop-left-preserved : goal.loop-left-preserved
loop-left-preserved c = (omega (arith, c.loop-left.invariant.0, c.step.ensures.at_most, c.step-in-loop-left.ensures.at_most, c.step-in-loop-left-2.ensures.at_most), lower_narrowed _ _ c.loop-left.low c.loop-left.left (c.loop-left.left / 4) c.loop-left.invariant.1 (omega (arith, c.loop-left-test.true)) (omega arith) (told_less c.signed-a.result _ _ c.signed-a.ensures.and_back) c.step.ensures.defined (told_less c.signed-m.result _ _ c.signed-m.ensures.and_back) c.step-in-loop-left.ensures.defined (told_less c.signed-z.result _ _ c.signed-z.ensures.and_back) c.step-in-loop-left-2.ensures.defined)

pub returns : goal.returns
returns c = record {
  inside = c.loop-left.invariant.0;
  narrowed = lower_own _ _ c.ranges.id c.loop-left.invariant.1;
}
