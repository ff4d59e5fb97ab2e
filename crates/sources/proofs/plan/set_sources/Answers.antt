-- `plan::set_sources` meets its contract. Assumes nothing.
use Rattle.sources.proofs.plan.set_sources.Goals as goal
use native.Mathlib.Omega.{arith}
use mathlib.Core.Path.{refl, ap, ◌∙◌}
use lib.ListN.{length-set}
use Rattle.sources.specs.Rows.{held}
use Rattle.sources.proofs.Setting.{upto_none, inside, ranged, upto_next, upto_all}

pub loop-k-init : goal.loop-k-init
loop-k-init c = ((omega arith, (inside _ _ _ _ _ c.requires.planning.dispatched, refl)), λ rs D. upto_none _ _ _ _ _ _)

pub sources_of_row-requires : goal.sources_of_row-requires
sources_of_row-requires c = record { ranged = ranged _ _ _ _ _ _ c.requires.planning.dispatched c.loop-k-test.true (c.loop-k.invariant.1 _ c.requires.planning.dispatched) c.index.ensures.defined.0 c.index-in-loop-k.ensures.defined.0 }

pub loop-k-preserved : goal.loop-k-preserved
loop-k-preserved c = ((omega (arith, c.loop-k-test.true), (c.loop-k.invariant.0.1.0, simp length-set c.loop-k.invariant.0.1.1)), λ rs D. upto_next _ _ _ _ _ _ D c.loop-k-test.true (c.loop-k.invariant.1 rs D) c.index.ensures.defined.0 c.index-in-loop-k.ensures.defined.0 c.sources_of_row.ensures.defined c.held-count.ensures.defined (c.held-end.ensures.defined ∙ ap held (omega (arith, c.index-in-loop-k-2.ensures.defined.0, c.index-in-loop-k-3.ensures.defined.0))) refl)

pub returns : goal.returns
returns c = record { defined = λ rs D. upto_all _ _ _ _ _ _ D (c.loop-k.invariant.1 rs D) c.loop-k.invariant.0.0 c.loop-k-test.false }
