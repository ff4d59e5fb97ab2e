-- `look_ups::get_dogma_effects` meets its contract. Assumes nothing.
use Rattle.info.proofs.look_ups.get_dogma_effects.Goals as goal
use mathlib.Core.Path.{refl, subst}
use lib.Dec.{lit≤}
use lib.IntN.{ℤ}
use mir.Syntax.{w32}
use mir.ValLaws.{to_z-of_z}
use Rattle.rules.specs.Sheet.{book_of, type_effect_from}
use Rattle.rules.specs.Info.{get_dogma_effects}
use Rattle.rules.proofs.Verdicts.{type_effects_ordered}
use Rattle.info.specs.LookUps.{RunTo}
use Rattle.info.proofs.Finds.{table_keyed, table-run}

pub lower_at-low-requires : goal.lower_at-low-requires
unfolding book_of
lower_at-low-requires c = record { keyed = table_keyed type_effect_from (λ r. r.type_id) (λ k r. refl) 4 (lit≤ tt) c.args.book.now c.args.pairs.now c.offset_of-at.ensures.defined c.count_of-n.ensures.defined c.requires.sound_book.held.type_effects (type_effects_ordered (book_of c.args.book.now c.args.pairs.now) c.requires.sound_book.good) }

pub run_end-end-requires : goal.run_end-end-requires
unfolding book_of
run_end-end-requires c = record {
  keyed = table_keyed type_effect_from (λ r. r.type_id) (λ k r. refl) 4 (lit≤ tt) c.args.book.now c.args.pairs.now c.offset_of-at.ensures.defined c.count_of-n.ensures.defined c.requires.sound_book.held.type_effects (type_effects_ordered (book_of c.args.book.now c.args.pairs.now) c.requires.sound_book.good);
  from_the_first = c.lower_at-low.ensures.defined;
}

pub returns : goal.returns
unfolding book_of get_dogma_effects
returns c = record { together = table-run type_effect_from (λ r. r.type_id) (λ k r. refl) 4 (lit≤ tt) c.args.book.now c.args.pairs.now c.offset_of-at.ensures.defined c.count_of-n.ensures.defined c.args.id (subst (λ (z : ℤ). RunTo c.args.book.now c.offset_of-at.result 12 c.count_of-n.result z c.lower_at-low.result c.run_end-end.result) (to_z-of_z w32 c.args.id c.ranges.id) c.run_end-end.ensures.defined) }
