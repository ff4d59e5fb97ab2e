-- `spreadsheet::dogma_export` meets its contract. Assumes nothing.
use Rattle.spreadsheet.proofs.dogma_export.Goals as goal
use mathlib.Core.Path.{refl, sym, ap, ◌∙◌}
use Rattle.csv_text.specs.Puts.{told_of}
use Rattle.spreadsheet.specs.Exports.{exported_of}
use Rattle.run.specs.Filled.{columns}
use Rattle.text.proofs.Shows.{rows_inside, values_inside}
use Rattle.text.proofs.Tells.{tells_it}
use Rattle.spreadsheet.proofs.Exporting.{exports, kept_by}

pub dogma_calculate-made-requires : goal.dogma_calculate-made-requires
dogma_calculate-made-requires c = tt

pub export_text-told-requires : goal.export_text-told-requires
export_text-told-requires c = record { counted = (rows_inside _ _ _ c.dogma_calculate-made.ensures.the_definitions_answer c.dogma_calculate-made.auto.rows c.dogma_calculate-made.auto.values, values_inside _ _ _ c.dogma_calculate-made.ensures.the_definitions_answer c.dogma_calculate-made.auto.rows c.dogma_calculate-made.auto.values) }

pub shape_of-text : goal.shape_of-text
shape_of-text c = c.export_text-told.auto.text

pub shape_of-collected : goal.shape_of-collected
shape_of-collected c = c.kept_if.auto.collected ∙ c.dogma_calculate-made.auto.collected

pub shape_of-collected_values : goal.shape_of-collected_values
shape_of-collected_values c = c.kept_if.auto.collected_values ∙ c.dogma_calculate-made.auto.collected_values

pub shape_of-rows : goal.shape_of-rows
shape_of-rows c = c.kept_if.auto.rows ∙ c.dogma_calculate-made.auto.rows

pub shape_of-bases : goal.shape_of-bases
shape_of-bases c = c.kept_if.auto.bases ∙ c.dogma_calculate-made.auto.bases

pub shape_of-values : goal.shape_of-values
shape_of-values c = c.kept_if.auto.values ∙ c.dogma_calculate-made.auto.values

pub shape_of-entries : goal.shape_of-entries
shape_of-entries c = c.kept_if.auto.entries ∙ c.dogma_calculate-made.auto.entries

pub shape_of-entry_values : goal.shape_of-entry_values
shape_of-entry_values c = c.kept_if.auto.entry_values ∙ c.dogma_calculate-made.auto.entry_values

pub shape_of-plain : goal.shape_of-plain
shape_of-plain c = c.kept_if.auto.plain ∙ c.dogma_calculate-made.auto.plain

pub shape_of-sources : goal.shape_of-sources
shape_of-sources c = c.kept_if.auto.sources ∙ c.dogma_calculate-made.auto.sources

pub shape_of-source_values : goal.shape_of-source_values
shape_of-source_values c = c.kept_if.auto.source_values ∙ c.dogma_calculate-made.auto.source_values

pub returns : goal.returns
returns c =
    let told = tells_it _ _ _ c.dogma_calculate-made.ensures.the_definitions_answer c.dogma_calculate-made.auto.rows c.dogma_calculate-made.auto.values in
    let given = c.export_text-told.ensures.defined _ told in
    record { the_definitions_export = exports c.args.sheet.now c.dogma_calculate-made.new.states c.kept_if.new.states (columns c.args.collected.now c.args.collected_values.now c.args.rows.now c.args.bases.now c.args.values.now c.args.entries.now c.args.entry_values.now c.args.plain.now c.args.sources.now c.args.source_values.now) (columns c.dogma_calculate-made.new.collected c.dogma_calculate-made.new.collected_values c.dogma_calculate-made.new.rows c.dogma_calculate-made.new.bases c.dogma_calculate-made.new.values c.dogma_calculate-made.new.entries c.dogma_calculate-made.new.entry_values c.dogma_calculate-made.new.plain c.dogma_calculate-made.new.sources c.dogma_calculate-made.new.source_values) (columns c.kept_if.new.collected c.kept_if.new.collected_values c.kept_if.new.rows c.kept_if.new.bases c.kept_if.new.values c.kept_if.new.entries c.kept_if.new.entry_values c.kept_if.new.plain c.kept_if.new.sources c.kept_if.new.source_values) c.dogma_calculate-made.result (told_of c.export_text-told.result) c.dogma_calculate-made.ensures.the_definitions_answer (record { collected = c.dogma_calculate-made.auto.collected; collected_values = c.dogma_calculate-made.auto.collected_values; rows = c.dogma_calculate-made.auto.rows; bases = c.dogma_calculate-made.auto.bases; values = c.dogma_calculate-made.auto.values; entries = c.dogma_calculate-made.auto.entries; entry_values = c.dogma_calculate-made.auto.entry_values; plain = c.dogma_calculate-made.auto.plain; sources = c.dogma_calculate-made.auto.sources; source_floats = c.dogma_calculate-made.auto.source_values }) c.args.labels.now c.args.label_bytes.now _ (c.is_ok-keep.ensures.value ∙ kept_by c.export_text-told.result (c.export_text-told.ensures.refused _ told)) c.kept_if.ensures.kept c.args.text.now c.export_text-told.new.text refl given.0 given.1 c.exported_of.result (c.exported_of.ensures.defined ∙ ap (exported_of c.dogma_calculate-made.result (told_of c.export_text-told.result)) (sym c.is_ok-keep.ensures.value)) }
