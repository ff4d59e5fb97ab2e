-- `calculate::calculated` meets its contract. Assumes nothing.
use Rattle.calculate.proofs.calculated.Goals as goal
use mathlib.Core.Path.{refl, ◌∙◌}
use Rattle.rules.specs.Sheet.{book_of, fit_of}
use Rattle.rules.specs.Outcome.{rooms_of}
use Rattle.run.specs.Filled.{columns, lent_of, decided}
use Rattle.calculate.proofs.Clearing.{meets}
use Rattle.calculate.specs.Given.{answer_from}

pub filled-ran-requires : goal.filled-ran-requires
filled-ran-requires c = record { sound = c.requires.sound }

pub returns : goal.returns
returns c = record { defined = meets (decided c.args.verdict (book_of c.args.book.now c.args.pairs.now) (fit_of c.args.fit.now c.args.pairs.now) (rooms_of (lent_of (columns c.args.collected.now c.args.collected_values.now c.args.rows.now c.args.bases.now c.args.values.now c.args.entries.now c.args.entry_values.now c.args.plain.now c.args.sources.now c.args.source_values.now)))) (columns c.args.collected.now c.args.collected_values.now c.args.rows.now c.args.bases.now c.args.values.now c.args.entries.now c.args.entry_values.now c.args.plain.now c.args.sources.now c.args.source_values.now) (columns c.filled-ran.new.collected c.filled-ran.new.collected_values c.filled-ran.new.rows c.filled-ran.new.bases c.filled-ran.new.values c.filled-ran.new.entries c.filled-ran.new.entry_values c.filled-ran.new.plain c.filled-ran.new.sources c.filled-ran.new.source_values) (columns c.clear.new.collected c.clear.new.collected_values c.clear.new.rows c.clear.new.bases c.clear.new.values c.clear.new.entries c.clear.new.entry_values c.clear.new.plain c.clear.new.sources c.clear.new.source_values) c.filled-ran.new.states c.clear.new.states _ c.filled-ran.result c.counts_of-counts.result (answer_from c.answer_of-answer.result) c.counts_of-counts.ensures.defined c.answer_of-answer.ensures.defined c.filled-ran.ensures.defined (record { collected = c.filled-ran.auto.collected; collected_values = c.filled-ran.auto.collected_values; rows = c.filled-ran.auto.rows; bases = c.filled-ran.auto.bases; values = c.filled-ran.auto.values; entries = c.filled-ran.auto.entries; entry_values = c.filled-ran.auto.entry_values; plain = c.filled-ran.auto.plain; sources = c.filled-ran.auto.sources; source_floats = c.filled-ran.auto.source_values }) (record { collected = c.clear.ensures.collected; collected_values = c.clear.ensures.collected_values; rows = c.clear.ensures.rows; bases = c.clear.ensures.bases; values = c.clear.ensures.values; entries = c.clear.ensures.entries; entry_values = c.clear.ensures.entry_values; plain = c.clear.ensures.plain; sources = c.clear.ensures.sources; source_floats = c.clear.ensures.source_values; states = c.clear.ensures.states; whole = c.clear.ensures.whole }) (record { number = c.number_of.ensures.defined; place = c.place_of.ensures.defined; collected = refl; rows = refl; entries = refl; plain = refl; sources = refl }) }
