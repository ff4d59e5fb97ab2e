-- `objects::collect_phases` meets its contract. Assumes nothing.
use Rattle.collect.proofs.objects.collect_phases.Goals as goal
use Rattle.modifier.proofs.Tests.{given_on}
use Rattle.collect.proofs.Turns.{in_turn, stopped_first, all_lent_kept}

pub collect_objects-requires : goal.collect_objects-requires
collect_objects-requires c = record {
  lent = c.requires.lent;
  sound_book = c.requires.sound_book;
  sound_fit = c.requires.sound_fit;
  hull_of_fit = c.requires.hull_of_fit;
  ranged = c.requires.ranged.0;
}

pub collect_objects-requires-2 : goal.collect_objects-requires-2
collect_objects-requires-2 c = record {
  lent = all_lent_kept c.requires.lent c.collect_objects.auto.collected c.collect_objects.auto.collected_values c.collect_objects.auto.plain;
  sound_book = c.requires.sound_book;
  sound_fit = c.requires.sound_fit;
  hull_of_fit = c.requires.hull_of_fit;
  ranged = c.requires.ranged.1;
}

pub returns-in_err-used : goal.returns-in_err-used
returns-in_err-used c = record { defined = rw (given_on _ c.from_residual.ensures.1) (stopped_first _ _ _ _ _ c.in_err-used.ensures.defined) }

pub returns : goal.returns
returns c = record { defined = in_turn _ _ _ _ _ _ c.in_ok-used.ensures.defined c.collect_objects-2.ensures.defined }
