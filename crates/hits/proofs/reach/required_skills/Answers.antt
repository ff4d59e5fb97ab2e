-- `reach::required_skills` meets its contract. The measure is how many base attributes are left.
use Rattle.hits.proofs.reach.required_skills.Goals as goal
use Rattle.hits.proofs.reach.required_skills.Goals.{in-Some, in_default}
use mathlib.Core.Path.{ap, ◌∙◌}
use native.Mathlib.Omega.{arith}
use mir.Syntax.{w32}
use mir.Facts.{to_z-of_z}
use borrow.Author.Rules.{sfits_of}
use Rattle.rules.specs.Bytes.{bits}
use Rattle.rules.specs.Item.{no_item, object}
use Rattle.rules.specs.Sheet.{fit_of}
use Rattle.info.proofs.Elements.{bases_length}
use Rattle.info.proofs.Bases.{based}
use Rattle.hits.specs.Reach.{slot_of}
use Rattle.hits.proofs.Filled.{filled_none, filled_here, filled_on, bases_within, filled_all}

pub loop-k-init : goal.loop-k-init
loop-k-init c = filled_none _ _ _

pub base_attribute-b-requires : goal.base_attribute-b-requires
base_attribute-b-requires c = record {
  held_fit = c.requires.sound_fit.held;
  inside = omega (arith, c.loop-k-test.true, bases_length c.args.fit.now c.args.pairs.now, bases_within (fit_of c.args.fit.now c.args.pairs.now) c.object-o.result (based c.args.fit.now c.args.pairs.now c.object-o.result c.args.i c.requires.sound_fit c.requires.an_object c.object-o.ensures.record_i) c.index-first.ensures.defined.0 c.index-n.ensures.defined.0);
}

pub loop-k-preserved : goal.loop-k-preserved
loop-k-preserved c = elim c.match-slot_of.branch [
  | in-Some w ↦ rw w.row-is (filled_here _ _ _ c.loop-k.invariant c.loop-k-test.true (bases_within (fit_of c.args.fit.now c.args.pairs.now) c.object-o.result (based c.args.fit.now c.args.pairs.now c.object-o.result c.args.i c.requires.sound_fit c.requires.an_object c.object-o.ensures.record_i) c.index-first.ensures.defined.0 c.index-n.ensures.defined.0) c.base_attribute-b.ensures.record_i (w.in-Some.ensures.defined ∙ ap slot_of (to_z-of_z (sfits_of {w = w32} {z = c.base_attribute-b.result.attribute_id} c.struct_told-1.given.0.1))) (w.bits-skill.ensures.defined ∙ ap bits (to_z-of_z {w = w32} (sfits_of w.cut.type_inv) ∙ w.cut.ensures.defined)))
  | in_default w ↦ rw w.row-is (filled_on _ _ _ c.loop-k.invariant c.loop-k-test.true (bases_within (fit_of c.args.fit.now c.args.pairs.now) c.object-o.result (based c.args.fit.now c.args.pairs.now c.object-o.result c.args.i c.requires.sound_fit c.requires.an_object c.object-o.ensures.record_i) c.index-first.ensures.defined.0 c.index-n.ensures.defined.0) c.base_attribute-b.ensures.record_i (w.in_default.ensures.defined ∙ ap slot_of (to_z-of_z (sfits_of {w = w32} {z = c.base_attribute-b.result.attribute_id} c.struct_told-1.given.0.1))))
]

pub returns : goal.returns
returns c = record { defined = filled_all (fit_of c.args.fit.now c.args.pairs.now) c.object-o.result (object (fit_of c.args.fit.now c.args.pairs.now) c.args.i) (based c.args.fit.now c.args.pairs.now c.object-o.result c.args.i c.requires.sound_fit c.requires.an_object c.object-o.ensures.record_i) (c.object-o.ensures.record_i no_item) c.index-first.ensures.defined.0 c.index-n.ensures.defined.0 c.loop-k.invariant c.loop-k-test.false }
