-- `hits::skill_of` meets its contract.
use Rattle.hits.proofs.skill_of.Goals as goal
use mathlib.Core.Path.{ap, ◌∙◌}
use borrow.Author.Rules.{sfits_of}
use mir.Syntax.{w32}
use mir.Val.{of_z}
use mir.ValLaws.{to_z-of_z}
use Rattle.rules.specs.Item.{no_item}
use Rattle.rules.specs.Sheet.{fit_of}
use Rattle.hits.proofs.Effects.{skill_itself, skill_buff, skill_effect}

pub returns-then-skill : goal.returns-then-skill
returns-then-skill c = record { defined = λ t s e w h. skill_itself t _ e (fit_of c.args.fit.now c.args.pairs.now) s w h c.if-skill.true }

pub returns-then-origin-eq1 : goal.returns-then-origin-eq1
returns-then-origin-eq1 c = record { defined = λ t s e w h. skill_buff t _ e (fit_of c.args.fit.now c.args.pairs.now) s w h c.if-skill.false c.if-origin-eq1.true }

pub returns : goal.returns
returns c = record { defined = λ t s e w h. skill_effect t _ e (fit_of c.args.fit.now c.args.pairs.now) s w h c.if-skill.false c.if-origin-eq1.false (c.bits.ensures.defined ∙ ap (of_z w32) (to_z-of_z w32 c.object-source.result.type_id (sfits_of c.struct_told-1.given.1.1.0.1))) (c.object-source.ensures.record_i no_item) c.index.ensures.defined.0 }
