-- `reach::slot_of` meets its contract.
use Rattle.std.proofs.Common.{◌≡◌, ◌<◌, ℤ, ap, subst, sym, ◌∙◌, rules, tests}
use Rattle.std.specs.Prelude.{Option, ℕ, IfSome}
use Rattle.std.specs.Ordering.{int_eq}
use Rattle.std.proofs.lemmas.Iterator.{YieldsList-from_slice}
use Rattle.std.proofs.lemmas.Iterator.Search.{position_from_yields_List}
use mir.Facts.{to_z-of_z}
use mir.Syntax.{w32}
use mir.Val.{of_z, to_z}
use Rattle.laws.proofs.Any.{int_eq_turned}
use Rattle.rules.specs.Constants.{attribute_skills}
use Rattle.hits.specs.Reach.{place_of, slot_of}
use Rattle.hits.proofs.Filled.{place_found, place-inside}
use Rattle.hits.proofs.reach.slot_of.Goals as goal

pub returns : goal.returns
unfolding slot_of
returns c =
    let z : ℤ = to_z w32 (of_z w32 c.args.id) in
    let found : c.position.result ≡ place_of z attribute_skills =
    position_from_yields_List (λ y. int_eq y z) _ _ c.position.result c.position.ensures.ran (YieldsList-from_slice attribute_skills cc) (λ x b q k. search (rules, tests))
    ∙ place_found z (λ y. int_eq y z) (int_eq_turned z) attribute_skills in
    record {
      defined = found ∙ ap (λ (y : ℤ). place_of y attribute_skills) (to_z-of_z c.ranges.id);
      inside = subst (λ (o : Option ℕ). IfSome o (λ s. s < 6)) (sym found) (place-inside z attribute_skills);
    }
