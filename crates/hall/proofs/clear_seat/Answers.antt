-- `hall::clear_seat` meets its contract.
use Rattle.hall.proofs.clear_seat.Goals as goal
use mathlib.Core.Path.{ap}
use lib.ListN.{set, replicate}
use Rattle.laws.specs.Floats.{zero_f}
use Rattle.hall.proofs.Zeroed.{same_long, zeroed, zero_states, pool_same}

pub shape_of-collected : goal.shape_of-collected
shape_of-collected c = same_long c.args.seat.start c.args.seat.length c.args.collected.now c.requires.collected c.end-end.ensures.defined c.clear.new.collected c.clear.auto.collected

pub shape_of-collected_values : goal.shape_of-collected_values
shape_of-collected_values c = same_long c.args.seat.start c.args.seat.length c.args.collected_values.now c.requires.collected_values c.end-end.ensures.defined c.clear.new.collected_values c.clear.auto.collected_values

pub shape_of-rows : goal.shape_of-rows
shape_of-rows c = same_long c.args.seat.start c.args.seat.length c.args.rows.now c.requires.rows c.end-end.ensures.defined c.clear.new.rows c.clear.auto.rows

pub shape_of-bases : goal.shape_of-bases
shape_of-bases c = same_long c.args.seat.start c.args.seat.length c.args.bases.now c.requires.bases c.end-end.ensures.defined c.clear.new.bases c.clear.auto.bases

pub shape_of-values : goal.shape_of-values
shape_of-values c = same_long c.args.seat.start c.args.seat.length c.args.values.now c.requires.values c.end-end.ensures.defined c.clear.new.values c.clear.auto.values

pub shape_of-entries : goal.shape_of-entries
shape_of-entries c = same_long c.args.seat.start c.args.seat.length c.args.entries.now c.requires.entries c.end-end.ensures.defined c.clear.new.entries c.clear.auto.entries

pub shape_of-entry_values : goal.shape_of-entry_values
shape_of-entry_values c = same_long c.args.seat.start c.args.seat.length c.args.entry_values.now c.requires.entry_values c.end-end.ensures.defined c.clear.new.entry_values c.clear.auto.entry_values

pub shape_of-plain : goal.shape_of-plain
shape_of-plain c = same_long c.args.seat.start c.args.seat.length c.args.plain.now c.requires.plain c.end-end.ensures.defined c.clear.new.plain c.clear.auto.plain

pub shape_of-sources : goal.shape_of-sources
shape_of-sources c = same_long c.args.seat.start c.args.seat.length c.args.sources.now c.requires.sources c.end-end.ensures.defined c.clear.new.sources c.clear.auto.sources

pub shape_of-source_values : goal.shape_of-source_values
shape_of-source_values c = same_long c.args.seat.start c.args.seat.length c.args.source_values.now c.requires.source_values c.end-end.ensures.defined c.clear.new.source_values c.clear.auto.source_values

pub returns : goal.returns
returns c = record { cleared = pool_same (ap (set c.args.states.now c.args.p) (zero_states _ c.clear.ensures.states c.clear.ensures.whole)) (zeroed c.args.seat.start c.args.seat.length c.args.collected.now c.requires.collected c.end-end.ensures.defined (replicate 14 0) c.clear.new.collected c.clear.ensures.collected) (zeroed c.args.seat.start c.args.seat.length c.args.collected_values.now c.requires.collected_values c.end-end.ensures.defined zero_f c.clear.new.collected_values c.clear.ensures.collected_values) (zeroed c.args.seat.start c.args.seat.length c.args.rows.now c.requires.rows c.end-end.ensures.defined (replicate 6 0) c.clear.new.rows c.clear.ensures.rows) (zeroed c.args.seat.start c.args.seat.length c.args.bases.now c.requires.bases c.end-end.ensures.defined zero_f c.clear.new.bases c.clear.ensures.bases) (zeroed c.args.seat.start c.args.seat.length c.args.values.now c.requires.values c.end-end.ensures.defined zero_f c.clear.new.values c.clear.ensures.values) (zeroed c.args.seat.start c.args.seat.length c.args.entries.now c.requires.entries c.end-end.ensures.defined (replicate 12 0) c.clear.new.entries c.clear.ensures.entries) (zeroed c.args.seat.start c.args.seat.length c.args.entry_values.now c.requires.entry_values c.end-end.ensures.defined zero_f c.clear.new.entry_values c.clear.ensures.entry_values) (zeroed c.args.seat.start c.args.seat.length c.args.plain.now c.requires.plain c.end-end.ensures.defined (replicate 2 0) c.clear.new.plain c.clear.ensures.plain) (zeroed c.args.seat.start c.args.seat.length c.args.sources.now c.requires.sources c.end-end.ensures.defined (replicate 11 0) c.clear.new.sources c.clear.ensures.sources) (zeroed c.args.seat.start c.args.seat.length c.args.source_values.now c.requires.source_values c.end-end.ensures.defined (replicate 2 zero_f) c.clear.new.source_values c.clear.ensures.source_values) }
