-- `build::keys_of` meets its contract.
use Rattle.maps.proofs.build.keys_of.Goals as goal
use native.Mathlib.Omega.{arith}
use mathlib.Core.Path.{refl, sym, ap, ◌∙◌}
use Rattle.rules.specs.Item.{object, no_item}
use Rattle.rules.specs.Sheet.{fit_of}
use Rattle.info.specs.Stands.{is_fitted}
use Rattle.maps.proofs.Rows.{row-fitted, row_other, skills_small, seven_small}

pub returns-then-fitted : goal.returns-then-fitted
returns-then-fitted c = record {
  defined = λ q. row-fitted (fit_of c.args.fit.now c.args.pairs.now) (object (fit_of c.args.fit.now c.args.pairs.now) c.args.i) c.required_skills-s.ensures.defined (ap is_fitted (sym (c.object-o.ensures.record_i no_item)) ∙ c.if-fitted.true) c.group_key-own.ensures.defined q;
  small = (refl, seven_small _ _ _ _ _ _ _ (skills_small (fit_of c.args.fit.now c.args.pairs.now) (object (fit_of c.args.fit.now c.args.pairs.now) c.args.i) c.required_skills-s.ensures.defined 0) (skills_small (fit_of c.args.fit.now c.args.pairs.now) (object (fit_of c.args.fit.now c.args.pairs.now) c.args.i) c.required_skills-s.ensures.defined 1) (skills_small (fit_of c.args.fit.now c.args.pairs.now) (object (fit_of c.args.fit.now c.args.pairs.now) c.args.i) c.required_skills-s.ensures.defined 2) (skills_small (fit_of c.args.fit.now c.args.pairs.now) (object (fit_of c.args.fit.now c.args.pairs.now) c.args.i) c.required_skills-s.ensures.defined 3) (skills_small (fit_of c.args.fit.now c.args.pairs.now) (object (fit_of c.args.fit.now c.args.pairs.now) c.args.i) c.required_skills-s.ensures.defined 4) (skills_small (fit_of c.args.fit.now c.args.pairs.now) (object (fit_of c.args.fit.now c.args.pairs.now) c.args.i) c.required_skills-s.ensures.defined 5) c.group_key-own.ensures.small);
}

pub returns : goal.returns
returns c = record {
  defined = λ q. row_other (fit_of c.args.fit.now c.args.pairs.now) (object (fit_of c.args.fit.now c.args.pairs.now) c.args.i) (ap is_fitted (sym (c.object-o.ensures.record_i no_item)) ∙ c.if-fitted.false) c.group_key-own.ensures.defined q;
  small = (refl, seven_small _ _ _ _ _ _ _ (omega arith) (omega arith) (omega arith) (omega arith) (omega arith) (omega arith) c.group_key-own.ensures.small);
}
