-- `lower` meets its contract. The rows before k whose attribute is below are counted. The measure is what is left of the window.
use Rattle.search.proofs.lower.Goals as goal
use Prim.Native.Nat.{◌-◌, ◌≤◌}
use native.Mathlib.Omega.{arith}
use mir.Syntax.{w32}
use mir.Val.{to_z}
use Rattle.search.proofs.Steps.{CountedBelow, lower_own, counts_start, counts-more, counts_end, told_less}

pub loop-k-init : goal.loop-k-init
loop-k-init c = (omega arith, counts_start _ _ c.narrowed-window.ensures.narrowed)

pub loop-k-preserved : goal.loop-k-preserved
loop-k-preserved c = (omega (arith, c.loop-k-test.true), counts-more _ _ c.loop-k.invariant.1 (omega (arith, c.narrowed-window.ensures.inside, c.loop-k-test.true)) (told_less c.signed-own.result _ _ c.signed-own.ensures.and_back) c.step-found.ensures.defined c.step-found.ensures.at_most)

pub returns : goal.returns
returns c = record {
  inside = omega (arith, c.loop-k.invariant.0, c.loop-k.invariant.1.up_to, c.narrowed-window.ensures.inside);
  defined = lower_own _ _ c.ranges.id (counts_end _ _ c.narrowed-window.ensures.narrowed c.loop-k.invariant.1 c.loop-k-test.false);
}
