-- `kept::kept_if` meets its contract. Assumes nothing.
use Rattle.kept.proofs.kept_if.Goals as goal
use mathlib.Core.Bool.{not}
use mathlib.Core.Path.{refl, ap}
use Rattle.kept.proofs.Keeping.{none_kept, all_kept}

pub shape_of-collected : goal.shape_of-collected
shape_of-collected c = c.clear.auto.collected

pub shape_of-collected_values : goal.shape_of-collected_values
shape_of-collected_values c = c.clear.auto.collected_values

pub shape_of-rows : goal.shape_of-rows
shape_of-rows c = c.clear.auto.rows

pub shape_of-bases : goal.shape_of-bases
shape_of-bases c = c.clear.auto.bases

pub shape_of-values : goal.shape_of-values
shape_of-values c = c.clear.auto.values

pub shape_of-entries : goal.shape_of-entries
shape_of-entries c = c.clear.auto.entries

pub shape_of-entry_values : goal.shape_of-entry_values
shape_of-entry_values c = c.clear.auto.entry_values

pub shape_of-plain : goal.shape_of-plain
shape_of-plain c = c.clear.auto.plain

pub shape_of-sources : goal.shape_of-sources
shape_of-sources c = c.clear.auto.sources

pub shape_of-source_values : goal.shape_of-source_values
shape_of-source_values c = c.clear.auto.source_values

pub returns-then-not-keep : goal.returns-then-not-keep
returns-then-not-keep c = record { kept = none_kept c.args.keep (ap not c.if-not-keep.true) (record { collected = c.clear.ensures.collected; collected_values = c.clear.ensures.collected_values; rows = c.clear.ensures.rows; bases = c.clear.ensures.bases; values = c.clear.ensures.values; entries = c.clear.ensures.entries; entry_values = c.clear.ensures.entry_values; plain = c.clear.ensures.plain; sources = c.clear.ensures.sources; source_floats = c.clear.ensures.source_values; states = c.clear.ensures.states; whole = c.clear.ensures.whole }) }

pub returns-else-not-keep : goal.returns-else-not-keep
returns-else-not-keep c = record { kept = all_kept c.args.keep (ap not c.if-not-keep.false) (record { collected = refl; collected_values = refl; rows = refl; bases = refl; values = refl; entries = refl; entry_values = refl; plain = refl; sources = refl; source_floats = refl; states = refl }) }
