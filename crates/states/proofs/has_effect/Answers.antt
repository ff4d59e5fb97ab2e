-- `states::has_effect` meets its contract. Assumes nothing.
use Rattle.states.proofs.has_effect.Goals as goal
use Prim.Native.Nat.{ℕ, ◌+◌}
use native.Mathlib.Omega.{arith}
use mathlib.Core.Path.{refl, ◌∙◌}
use lib.ListN.{get_or}
use Rattle.std.proofs.Common.{rules}
use Rattle.std.proofs.lemmas.Iterator.{YieldsList-from_range}
use Rattle.std.proofs.lemmas.Iterator.Search.{any_from_yields_List}
use Rattle.laws.specs.Lists.{eq_z}
use Rattle.laws.proofs.Signs.{eq_z-bits}
use Rattle.rules.specs.Sheet.{book_of}
use Rattle.rules.specs.declared.TypeDogmaEffect.{TypeDogmaEffect}
use Rattle.info.proofs.Elements.{type_effects_length}
use Rattle.states.proofs.Raising.{any-span}

pub returns : goal.returns
returns c =
    let ts = (book_of c.args.book.now c.args.pairs.now).type_effects in
    let same = λ (e : TypeDogmaEffect). eq_z e.effect_id c.args.t.effect_id in
    record {
      defined =
          any_from_yields_List (λ (i : ℕ). same (get_or ts i c.args.t)) _ _ c.any.result c.any.ensures.ran
          (YieldsList-from_range c.args.first (c.args.first + c.args.count) c.args.count refl (omega arith)) (λ x b q k. search (rules, eq_z-bits))
          ∙ any-span same ts c.args.t c.args.first c.args.count (omega (arith, c.requires.inside, type_effects_length c.args.book.now c.args.pairs.now));
    }
