-- `calculate::dogma_calculate` meets its contract. Assumes nothing.
use Rattle.calculate.proofs.dogma_calculate.Goals as goal
use Rattle.run.specs.Filled.{columns}
use Rattle.calculate.proofs.Sheets.{sheet_sound, sheet_meets}

pub calculated-requires : goal.calculated-requires
calculated-requires c = record { sound = sheet_sound c.args.sheet.now c.pairs_lent-pairs.result c.pairs_lent-pairs.ensures.defined c.shape-verdict.ensures.defined }

pub returns : goal.returns
returns c = record { the_definitions_answer = sheet_meets c.args.sheet.now c.pairs_lent-pairs.result c.pairs_lent-pairs.ensures.defined c.shape-verdict.ensures.defined (columns c.args.collected.now c.args.collected_values.now c.args.rows.now c.args.bases.now c.args.values.now c.args.entries.now c.args.entry_values.now c.args.plain.now c.args.sources.now c.args.source_values.now) (columns c.calculated.new.collected c.calculated.new.collected_values c.calculated.new.rows c.calculated.new.bases c.calculated.new.values c.calculated.new.entries c.calculated.new.entry_values c.calculated.new.plain c.calculated.new.sources c.calculated.new.source_values) c.calculated.new.states c.calculated.result c.calculated.ensures.defined }
