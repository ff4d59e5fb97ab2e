-- `pilots::dogma_calculate_pilot` meets its contract. Assumes nothing.
use Rattle.pilots.proofs.dogma_calculate_pilot.Goals as goal
use native.Mathlib.Omega.{arith}
use Rattle.run.specs.Filled.{columns}
use Rattle.pilots.proofs.Backed.{same_long}
use Rattle.pilots.proofs.Lent.{files_sound, refused-meets, given-meets}

pub files_shape-verdict-requires : goal.files_shape-verdict-requires
files_shape-verdict-requires c = record { read = c.pairs_in-pairs.ensures.defined }

pub calculated-requires : goal.calculated-requires
calculated-requires c = record { sound = files_sound c.args.book.now c.args.fit.now c.pairs_in-pairs.ensures.defined c.files_shape-verdict.ensures.defined }

pub returns-in-Err : goal.returns-in-Err
returns-in-Err c = record { the_pilots_answer = refused-meets c.args.book.now c.args.fit.now c.args.stretches.now c.args.pilot c.args.states.now (columns c.args.collected.now c.args.collected_values.now c.args.rows.now c.args.bases.now c.args.values.now c.args.entries.now c.args.entry_values.now c.args.plain.now c.args.sources.now c.args.source_values.now) c.lend.ensures.defined c.in-Err.is c.pool_answer.ensures.told }

pub shape_of-collected : goal.shape_of-collected
shape_of-collected c = same_long _ _ _ c.in-Ok.ensures.inside.inside.collected c.calculated.new.collected c.calculated.auto.collected

pub shape_of-collected_values : goal.shape_of-collected_values
shape_of-collected_values c = same_long _ _ _ c.in-Ok.ensures.inside.inside.collected_values c.calculated.new.collected_values c.calculated.auto.collected_values

pub shape_of-rows : goal.shape_of-rows
shape_of-rows c = same_long _ _ _ c.in-Ok.ensures.inside.inside.rows c.calculated.new.rows c.calculated.auto.rows

pub shape_of-bases : goal.shape_of-bases
shape_of-bases c = same_long _ _ _ c.in-Ok.ensures.inside.inside.bases c.calculated.new.bases c.calculated.auto.bases

pub shape_of-values : goal.shape_of-values
shape_of-values c = same_long _ _ _ c.in-Ok.ensures.inside.inside.values c.calculated.new.values c.calculated.auto.values

pub shape_of-entries : goal.shape_of-entries
shape_of-entries c = same_long _ _ _ c.in-Ok.ensures.inside.inside.entries c.calculated.new.entries c.calculated.auto.entries

pub shape_of-entry_values : goal.shape_of-entry_values
shape_of-entry_values c = same_long _ _ _ c.in-Ok.ensures.inside.inside.entry_values c.calculated.new.entry_values c.calculated.auto.entry_values

pub shape_of-plain : goal.shape_of-plain
shape_of-plain c = same_long _ _ _ c.in-Ok.ensures.inside.inside.plain c.calculated.new.plain c.calculated.auto.plain

pub shape_of-sources : goal.shape_of-sources
shape_of-sources c = same_long _ _ _ c.in-Ok.ensures.inside.inside.sources c.calculated.new.sources c.calculated.auto.sources

pub shape_of-source_values : goal.shape_of-source_values
shape_of-source_values c = same_long _ _ _ c.in-Ok.ensures.inside.inside.source_floats c.calculated.new.source_values c.calculated.auto.source_values

pub returns : goal.returns
returns c = record {
  the_pilots_answer = given-meets c.args.book.now c.args.fit.now c.args.stretches.now c.args.pilot c.args.states.now (columns c.args.collected.now c.args.collected_values.now c.args.rows.now c.args.bases.now c.args.values.now c.args.entries.now c.args.entry_values.now c.args.plain.now c.args.sources.now c.args.source_values.now) c.lend.ensures.defined c.in-Ok.at c.in-Ok.is c.pairs_in-pairs.ensures.defined c.files_shape-verdict.ensures.defined
      (columns c.calculated.new.collected c.calculated.new.collected_values c.calculated.new.rows c.calculated.new.bases c.calculated.new.values c.calculated.new.entries c.calculated.new.entry_values c.calculated.new.plain c.calculated.new.sources c.calculated.new.source_values) c.calculated.new.states c.calculated.result
      (record { collected = c.calculated.auto.collected; collected_values = c.calculated.auto.collected_values; rows = c.calculated.auto.rows; bases = c.calculated.auto.bases; values = c.calculated.auto.values; entries = c.calculated.auto.entries; entry_values = c.calculated.auto.entry_values; plain = c.calculated.auto.plain; sources = c.calculated.auto.sources; source_floats = c.calculated.auto.source_values }) c.calculated.ensures.defined;
}
