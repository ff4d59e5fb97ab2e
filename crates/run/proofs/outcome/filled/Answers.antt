-- `outcome::filled` meets its contract. Assumes nothing.
use Rattle.run.proofs.outcome.filled.Goals as goal
use Rattle.std.proofs.lemmas.Result.{err_from_is_err_and}
use Rattle.rules.specs.Sheet.{book_of, fit_of}
use Rattle.rules.specs.Outcome.{rooms_of}
use Rattle.run.specs.Filled.{columns, lent_of}
use Rattle.run.proofs.Joining.{refused_as}
use Rattle.run.proofs.Shaping.{bad, sound_as, sound_parts}

pub fill-requires : goal.fill-requires
fill-requires c = let both = sound_parts c.args.book.now c.args.fit.now c.args.pairs.now c.in_ok-verdict.was c.requires.sound in record { sound_book = both.0; sound_fit = both.1 }

pub returns-in_err-verdict : goal.returns-in_err-verdict
returns-in_err-verdict c = let p = err_from_is_err_and c.from_residual.result c.from_residual.ensures.1 in record { defined = rw (p.1, p.2) (refused_as c.args.states.now (columns c.args.collected.now c.args.collected_values.now c.args.rows.now c.args.bases.now c.args.values.now c.args.entries.now c.args.entry_values.now c.args.plain.now c.args.sources.now c.args.source_values.now) (columns c.args.collected.now c.args.collected_values.now c.args.rows.now c.args.bases.now c.args.values.now c.args.entries.now c.args.entry_values.now c.args.plain.now c.args.sources.now c.args.source_values.now) (bad (book_of c.args.book.now c.args.pairs.now) (fit_of c.args.fit.now c.args.pairs.now) (rooms_of (lent_of (columns c.args.collected.now c.args.collected_values.now c.args.rows.now c.args.bases.now c.args.values.now c.args.entries.now c.args.entry_values.now c.args.plain.now c.args.sources.now c.args.source_values.now))) c.in_err-verdict.was)) }

pub returns : goal.returns
returns c = record { defined = sound_as (book_of c.args.book.now c.args.pairs.now) (fit_of c.args.fit.now c.args.pairs.now) (columns c.args.collected.now c.args.collected_values.now c.args.rows.now c.args.bases.now c.args.values.now c.args.entries.now c.args.entry_values.now c.args.plain.now c.args.sources.now c.args.source_values.now) (columns c.fill.new.collected c.fill.new.collected_values c.fill.new.rows c.fill.new.bases c.fill.new.values c.fill.new.entries c.fill.new.entry_values c.fill.new.plain c.fill.new.sources c.fill.new.source_values) c.fill.new.states c.fill.result c.in_ok-verdict.was c.fill.ensures.defined }
