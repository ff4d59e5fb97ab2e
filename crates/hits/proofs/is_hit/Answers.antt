-- `hits::is_hit` meets its contract.
use Rattle.hits.proofs.is_hit.Goals as goal
use mathlib.Core.Path.{refl, ap, ◌∙◌}
use Rattle.std.proofs.Common.{ℕ, [], eqb, get_or}
use Rattle.laws.specs.Lists.{some?}
use Rattle.laws.proofs.Any.{contains_some}
use mathlib.Core.Bool.{true}
use Rattle.hits.specs.declared.Test.TheVariants.{All}
use Rattle.hits.proofs.Passing.{unreached, reached}

pub returns-then-reached-eq0 : goal.returns-then-reached-eq0
returns-then-reached-eq0 c = record { defined = unreached _ _ _ _ c.if-reached-eq0.true }

pub returns-in-All : goal.returns-in-All
returns-in-All c = record { defined = reached _ _ _ _ All true c.if-reached-eq0.false c.in-All.is refl }

pub returns-in-OfGroup : goal.returns-in-OfGroup
returns-in-OfGroup c = record { defined = reached _ _ _ _ _ _ c.if-reached-eq0.false c.in-OfGroup.is refl }

pub returns-in-Requiring : goal.returns-in-Requiring
returns-in-Requiring c = record { defined = reached _ _ _ _ _ _ c.if-reached-eq0.false c.in-Requiring.is (c.contains.ensures.value ∙ contains_some c.from.result _ ∙ ap (λ (s : ℕ). some? (eqb s) (get_or c.args.skills.now c.args.i [])) c.from.ensures) }
