-- `walk::walk` meets its contract. Assumes nothing.
use Rattle.std.proofs.lemmas.Result.{err_from_is_err_and}
use Rattle.values.proofs.walk.walk.Goals as goal
use native.Mathlib.Omega.{arith}
use Prim.Native.Nat.{◌+◌, ◌-◌, ◌≤◌, ◌<◌}
use mathlib.Core.Path.{◌≡◌, refl, sym, ap, ◌∙◌}
use lib.ListN.{length, get_or}
use mir.Facts.{to_z-of_z}
use borrow.Author.Rules.{sfits_of}
use Rattle.rules.specs.Sheet.{fit_of}
use mathlib.Core.List.{map}
use Rattle.rules.specs.Outcome.{walk_order}
use Rattle.memory.specs.Steps.{row_at}
use Rattle.memory.proofs.Fitting.{fits_below}
use Rattle.values.specs.Complete.{ask_of}
use Rattle.values.specs.Starting.{Walkable}
use Rattle.memory.specs.Holding.{tables}
use Rattle.values.proofs.Startings.{Asking, asking_starts, asking_ready, asking_ends, asking_next, asking_refused, walk_long, walk_at, depth_is}

pub loop-k-init : goal.loop-k-init
loop-k-init c = ((omega arith, refl, refl, refl), λ h. asking_starts h.ready c.depth_of-depth.result _)

pub walked-row-requires : goal.walked-row-requires
walked-row-requires c = record { ordered = (c.turns_of-turns.ensures.in_order c.requires.holding.ready.world.rows c.requires.holding.ready.told.held c.requires.holding.own).ordered }

pub walk_row-requires : goal.walk_row-requires
walk_row-requires c = let T = c.turns_of-turns.ensures.in_order c.requires.holding.ready.world.rows c.requires.holding.ready.told.held c.requires.holding.own in record {
  holding = asking_ready c.requires.holding.ready c.depth_of-depth.result _ (c.loop-k.invariant.1 c.requires.holding);
  within = c.walked-row.ensures.defined.1 (length c.args.columns.now.rows.now) (omega (arith, T.inside, c.requires.holding.ready.told.held.long)) c.loop-k-test.true;
}

pub loop-k-preserved : goal.loop-k-preserved
loop-k-preserved c = ((omega (arith, c.loop-k-test.true), c.walk_row.auto.values ∙ c.loop-k.invariant.0.1, c.walk_row.auto.sources ∙ c.loop-k.invariant.0.2, c.walk_row.auto.floats ∙ c.loop-k.invariant.0.3), λ h. let T = c.turns_of-turns.ensures.in_order h.ready.world.rows h.ready.told.held h.own in asking_next h.ready c.depth_of-depth.result _ (c.loop-k.invariant.1 h) (omega (arith, c.loop-k-test.true, walk_long T, h.ready.told.held.long)) (ask_of (row_at h.ready.world c.walked-row.result)) (walk_at T c.loop-k.k c.walked-row.result (omega (arith, c.loop-k-test.true, h.ready.told.held.long)) c.walked-row.ensures.defined.0) _ _ _ _ _ (c.in_ok-got.ensures.defined (asking_ready h.ready c.depth_of-depth.result _ (c.loop-k.invariant.1 h))))

pub returns-in_err-got : goal.returns-in_err-got
returns-in_err-got c = let p = err_from_is_err_and c.from_residual.result c.from_residual.ensures.1 in record { defined = λ h. let T = c.turns_of-turns.ensures.in_order h.ready.world.rows h.ready.told.held h.own in rw (p.1, p.2, depth_is c.args.fit.now c.args.columns.now.pairs.now c.depth_of-depth.ensures.defined) (asking_refused h.ready c.depth_of-depth.result _ (c.loop-k.invariant.1 h) (omega (arith, c.loop-k-test.true, walk_long T, h.ready.told.held.long)) (ask_of (row_at h.ready.world c.walked-row.result)) (walk_at T c.loop-k.k c.walked-row.result (omega (arith, c.loop-k-test.true, h.ready.told.held.long)) c.walked-row.ensures.defined.0) _ _ _ _ (c.in_err-got.ensures.defined (asking_ready h.ready c.depth_of-depth.result _ (c.loop-k.invariant.1 h)))) }

pub returns : goal.returns
returns c = record { defined = λ h. let T = c.turns_of-turns.ensures.in_order h.ready.world.rows h.ready.told.held h.own in rw (depth_is c.args.fit.now c.args.columns.now.pairs.now c.depth_of-depth.ensures.defined) (asking_ends h.ready c.depth_of-depth.result _ (c.loop-k.invariant.1 h) (omega (arith, c.loop-k-test.false, walk_long T, h.ready.told.held.long))) }
