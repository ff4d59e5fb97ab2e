-- `marks::set_penalties` meets its contract. Assumes nothing.
use Rattle.sources.proofs.marks.set_penalties.Goals as goal
use native.Mathlib.Omega.{arith}
use mathlib.Core.Path.{◌≡◌, refl, ◌∙◌}
use lib.ListN.{length}
use Rattle.sources.proofs.Changing.{begin, turn, whole}
use Rattle.std.proofs.Common.{rules}

pub loop-p-init : goal.loop-p-init
loop-p-init c = let lb : length c.args.b.sources ≡ 8 = search rules in ((omega arith, omega (arith, c.kept-n.ensures.defined)), lb, refl, λ w counts s₀ f₀ i m own used s values t k l la g h. begin w counts s₀ f₀ i m own used s _ l g h)

pub loop-p-preserved : goal.loop-p-preserved
loop-p-preserved c = ((omega (arith, c.loop-p-test.true), c.loop-p.invariant.0.1), c.loop-p.invariant.1, c.set_penalty.auto.floats ∙ c.loop-p.invariant.2, turn _ c.loop-p.invariant.3 c.loop-p.invariant.1 c.loop-p.invariant.0.1 c.loop-p-test.true (omega (arith, c.well_formed.1.0.1.1.0.1)) (omega (arith, c.requires.roomy, c.loop-p.invariant.2)) c.set_penalty.ensures.defined c.weight.ensures.defined)

pub shape_of-floats : goal.shape_of-floats
shape_of-floats c = c.loop-p.invariant.2

pub returns : goal.returns
returns c = let la : length c.args.b.values ≡ 8 = search rules in let lb : length c.args.b.sources ≡ 8 = search rules in record { defined = λ w counts s₀ f₀ i m own used s xs t k l g e off. whole c.args.b la lb c.kept-n.ensures.defined xs g c.loop-p.invariant.3 c.loop-p-test.false w counts s₀ f₀ i m own used s t k l e off }
