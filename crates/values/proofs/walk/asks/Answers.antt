-- `walk::asks` meets its contract. Assumes nothing.
use Rattle.std.proofs.lemmas.Result.{err_from_is_err_and}
use Rattle.values.proofs.walk.asks.Goals as goal
use native.Mathlib.Omega.{arith}
use Prim.Native.Nat.{◌+◌, ◌-◌, ◌≤◌, ◌<◌, ◌^◌}
use Rattle.std.proofs.Common.{rules}
use lib.Signed.{mag}
use mir.Syntax.{w32}
use mathlib.Core.Path.{◌≡◌, refl, sym, ap, ◌∙◌}
use lib.ListN.{length, get_or}
use mir.Facts.{to_z-of_z}
use borrow.Author.Rules.{sfits_of}
use Rattle.rules.specs.Sheet.{fit_of}
use Rattle.info.proofs.Elements.{asks_length}
use Rattle.memory.specs.Holding.{tables, Ready}
use Rattle.values.proofs.Startings.{Asking, asking_starts, asking_ready, asking_ends, asking_next, asking_refused, ask_few, depth_is}

pub loop-i-init : goal.loop-i-init
loop-i-init c = ((omega arith, refl, refl, refl), λ h. asking_starts h c.depth_of-depth.result (fit_of c.args.fit.now c.args.columns.now.pairs.now).asks)

pub ask-a-requires : goal.ask-a-requires
ask-a-requires c = record {
  held_fit = c.requires.sound.held;
  inside = omega (arith, c.loop-i-test.true, c.count_of-n.ensures.defined);
}

pub calculated_value-requires : goal.calculated_value-requires
calculated_value-requires c = let inside : c.loop-i.i < length (fit_of c.args.fit.now c.args.columns.now.pairs.now).asks = omega (arith, c.loop-i-test.true, c.count_of-n.ensures.defined, asks_length c.args.fit.now c.args.columns.now.pairs.now) in record {
  holding = asking_ready c.requires.holding c.depth_of-depth.result (fit_of c.args.fit.now c.args.columns.now.pairs.now).asks (c.loop-i.invariant.1 c.requires.holding);
  an_object = ask_few c.args.fit.now c.args.columns.now.pairs.now c.requires.sound c.loop-i.i inside c.ask-a.result (c.ask-a.ensures.record_i c.ask-a.result);
}

pub loop-i-preserved : goal.loop-i-preserved
loop-i-preserved c = let fits : mag c.ask-a.result.attribute_id < 2 ^ 31 = search rules in ((omega (arith, c.loop-i-test.true), c.calculated_value.auto.values ∙ c.loop-i.invariant.0.1, c.calculated_value.auto.sources ∙ c.loop-i.invariant.0.2, c.calculated_value.auto.floats ∙ c.loop-i.invariant.0.3), λ h. let inside : c.loop-i.i < length (fit_of c.args.fit.now c.args.columns.now.pairs.now).asks = omega (arith, c.loop-i-test.true, c.count_of-n.ensures.defined, asks_length c.args.fit.now c.args.columns.now.pairs.now) in asking_next h c.depth_of-depth.result (fit_of c.args.fit.now c.args.columns.now.pairs.now).asks (c.loop-i.invariant.1 h) inside c.ask-a.result (c.ask-a.ensures.record_i c.ask-a.result) _ _ _ _ _ (rw (to_z-of_z {w = w32} (sfits_of fits)) at (c.in_ok-got.ensures.defined (asking_ready h c.depth_of-depth.result (fit_of c.args.fit.now c.args.columns.now.pairs.now).asks (c.loop-i.invariant.1 h)))))

pub returns-in_err-got : goal.returns-in_err-got
returns-in_err-got c = let p = err_from_is_err_and c.from_residual.result c.from_residual.ensures.1 in let fits : mag c.ask-a.result.attribute_id < 2 ^ 31 = search rules in record { defined = λ h. let inside : c.loop-i.i < length (fit_of c.args.fit.now c.args.columns.now.pairs.now).asks = omega (arith, c.loop-i-test.true, c.count_of-n.ensures.defined, asks_length c.args.fit.now c.args.columns.now.pairs.now) in rw (p.1, p.2, depth_is c.args.fit.now c.args.columns.now.pairs.now c.depth_of-depth.ensures.defined) (asking_refused h c.depth_of-depth.result (fit_of c.args.fit.now c.args.columns.now.pairs.now).asks (c.loop-i.invariant.1 h) inside c.ask-a.result (c.ask-a.ensures.record_i c.ask-a.result) _ _ _ _ (rw (to_z-of_z {w = w32} (sfits_of fits)) at (c.in_err-got.ensures.defined (asking_ready h c.depth_of-depth.result (fit_of c.args.fit.now c.args.columns.now.pairs.now).asks (c.loop-i.invariant.1 h))))) }

pub returns : goal.returns
returns c = record { defined = λ h. rw (depth_is c.args.fit.now c.args.columns.now.pairs.now c.depth_of-depth.ensures.defined) (asking_ends h c.depth_of-depth.result (fit_of c.args.fit.now c.args.columns.now.pairs.now).asks (c.loop-i.invariant.1 h) (omega (arith, c.loop-i-test.false, c.count_of-n.ensures.defined, asks_length c.args.fit.now c.args.columns.now.pairs.now))) }
