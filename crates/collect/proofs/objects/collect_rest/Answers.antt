-- `objects::collect_rest` meets its contract. Assumes nothing.
use Rattle.collect.proofs.objects.collect_rest.Goals as goal
use mathlib.Core.Path.{sym, ◌∙◌}
use Rattle.info.proofs.Elements.{objects_length}
use Rattle.modifier.proofs.Tests.{given_on}
use Rattle.collect.proofs.Turns.{in_turn, stopped_first}
use Rattle.collect.proofs.Ranges.{fitted_ranged, skills_ranged}

pub collect_phases-requires-clause-ranged : goal.collect_phases-requires-clause-ranged
collect_phases-requires-clause-ranged c = (fitted_ranged _ _ c.requires.skills_last, skills_ranged _ _ c.requires.skills_last _ (c.count_of.ensures.defined ∙ sym (objects_length c.args.fit.now c.args.pairs.now)))

pub returns-in_err-used : goal.returns-in_err-used
returns-in_err-used c = record { defined = rw (given_on _ c.from_residual.ensures.1) (stopped_first _ _ _ _ _ (c.in_err-used.ensures.defined c.args.plain.now)) }

pub returns : goal.returns
returns c = record { defined = in_turn _ _ _ _ _ _ (c.in_ok-used.ensures.defined c.args.plain.now) c.collect_phases.ensures.defined }
