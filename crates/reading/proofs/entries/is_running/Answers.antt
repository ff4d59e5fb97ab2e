-- `reading::entries::is_running` meets its contract.
use Rattle.reading.proofs.entries.is_running.Goals as goal
use native.Mathlib.Omega.{arith}
use mathlib.Core.Path.{ap, subst}
use Rattle.rules.specs.declared.RunsAt.{RunsAt}
use Rattle.reading.specs.Held.{Sourced}
use Rattle.reading.proofs.Decodes.{effect_runs}

pub bounds-states-s : goal.bounds-states-s
bounds-states-s c = let h = subst Sourced c.in-Effect.is c.requires.sourced in omega (arith, h, c.index-s.ensures.defined.0)

pub returns-in-Effect : goal.returns-in-Effect
returns-in-Effect c = record { defined = effect_runs c.args.states.now c.in-Effect.is c.index-s.ensures.defined.0 (ap (λ (a : RunsAt). a.runs) c.runs_at-answer.ensures.defined) }
