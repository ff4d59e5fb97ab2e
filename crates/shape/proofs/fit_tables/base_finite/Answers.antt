-- `fit_tables::base_finite` meets its contract.
use Rattle.shape.proofs.fit_tables.base_finite.Goals as goal
use Rattle.shape.proofs.fit_tables.base_finite.Reads as reads
use Rattle.shape.proofs.fit_tables.base_finite.Lts as lts
use Rattle.info.proofs.header.offset_of.Reads as offset-of-reads
use Rattle.shape.proofs.fit_tables.finite_at.Reads as finite-at-reads
use Prim.Native.Nat.{◌+◌, ◌*◌, ◌≤◌}
use native.Mathlib.Omega.{arith}
use lib.ListN.{length}
use mathlib.Core.Path.{◌≡◌, refl, sym, ap, ◌∙◌}
use Rattle.laws.specs.Floats.{finite}
use Rattle.rules.specs.Sheet.{fit_of, base_from}
use Rattle.rules.specs.declared.BaseAttribute.{BaseAttribute}
use Rattle.info.proofs.Elements.{part, element}

pub returns : goal.returns
unfolding fit_of
returns c = let inside : c.offset_of.result + 12 * c.args.i + 12 ≤ length c.args.fit.now = omega (arith, c.offset_of.ensures.defined, c.requires.held_fit.bases.within, c.requires.inside) in
    record { defined = λ x N. c.finite_at.ensures.defined ∙ ap (λ (y : BaseAttribute). finite y.value) (element base_from 7 c.args.fit.now c.args.pairs.now c.args.i c.requires.inside (part c.args.fit.now (c.offset_of.result + 12 * c.args.i) 12 inside).0 c.offset_of.ensures.defined refl x ∙ sym (N x)) }
