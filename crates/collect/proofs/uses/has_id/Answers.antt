-- `uses::has_id` meets its contract. Assumes nothing.
use Rattle.collect.proofs.uses.has_id.Goals as goal
use Prim.Native.Nat.{ℕ, ◌+◌}
use native.Mathlib.Omega.{arith}
use mathlib.Core.Path.{refl, ◌∙◌}
use lib.IntN.{ℤ, pos}
use lib.ListN.{get_or}
use Rattle.std.proofs.Common.{rules}
use Rattle.std.proofs.lemmas.Iterator.{YieldsList-from_range}
use Rattle.std.proofs.lemmas.Iterator.Search.{any_from_yields_List}
use Rattle.laws.specs.Lists.{eq_z}
use Rattle.laws.proofs.Signs.{eq_z-bits}
use Rattle.laws.proofs.Order.{eq_z_sym}
use Rattle.rules.specs.Sheet.{fit_of}
use Rattle.info.proofs.Elements.{ids_length}
use Rattle.states.proofs.Raising.{any-span}

pub returns : goal.returns
returns c =
    let ids = (fit_of c.args.fit.now c.args.pairs.now).ids in
    let same = λ (x : ℤ). eq_z c.args.id x in
    let at_places = λ (x : ℕ). same (get_or ids x (pos 0)) in
    record {
      defined =
          any_from_yields_List at_places _ _ c.any.result c.any.ensures.ran
          (YieldsList-from_range c.index-start.result (c.index-start.result + c.index.result) c.index.result refl (omega arith)) (λ x b q k. search (rules, eq_z-bits, eq_z_sym))
          ∙ rw (c.index-start.ensures.defined.0, c.index.ensures.defined.0) (any-span same ids (pos 0) c.args.first c.args.count (omega (arith, c.requires.inside, ids_length c.args.fit.now c.args.pairs.now)));
    }
