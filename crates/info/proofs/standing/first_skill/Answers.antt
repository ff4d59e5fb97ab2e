-- `hits::first_skill` meets its contract.
use Rattle.info.specs.Stands.{FirstSkill}
use Rattle.std.proofs.Common.{◌≡◌, ℕ, subst}
use Rattle.info.proofs.standing.first_skill.Goals as goal
use native.Mathlib.Omega.{arith}
use Rattle.rules.specs.Sheet.{fit_of}
use Rattle.rules.specs.Item.{no_item}
use Rattle.info.proofs.Elements.{objects_length}
use Rattle.info.proofs.Sheets.{seen_none, seen_more, seen_skill, seen_all}

pub loop-i-init : goal.loop-i-init
loop-i-init c = seen_none (omega (arith, c.count_of-objects.ensures.defined, c.requires.a_number)) c.count_of-objects.ensures.defined (objects_length _ _)

pub object-o-requires : goal.object-o-requires
object-o-requires c = record {
  held_fit = c.requires.held_fit;
  inside = omega (arith, c.loop-i-test.true, c.count_of-objects.ensures.defined);
}

pub returns-then-o-eq-SKILL : goal.returns-then-o-eq-SKILL
returns-then-o-eq-SKILL c = record { defined = seen_skill c.loop-i.invariant c.loop-i-test.true (c.object-o.ensures.record_i no_item) c.if-o-eq-SKILL.true }

pub loop-i-preserved : goal.loop-i-preserved
loop-i-preserved c = seen_more c.loop-i.invariant c.loop-i-test.true (c.object-o.ensures.record_i no_item) c.if-o-eq-SKILL.false

pub returns : goal.returns
returns c = let e : c.loop-i.i ≡ c.count_of-objects.result = omega (arith, c.loop-i-test.false, c.loop-i.invariant.inside) in record { defined = subst (λ (x : ℕ). FirstSkill (fit_of c.args.fit.now c.args.pairs.now) c.args.from x) e (seen_all c.loop-i.invariant c.loop-i-test.false) }
