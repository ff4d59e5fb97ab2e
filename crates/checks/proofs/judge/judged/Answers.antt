-- `judge::judged` meets its contract.
use Rattle.checks.proofs.judge.judged.Goals as goal
use mathlib.Core.Path.{sym}
use mathlib.Core.List.{map}
use lib.Seq.{length-take-le}
use Rattle.rules.specs.Sheet.{book_of, fit_of}
use Rattle.rules.specs.Outcome.{rows_in, world_of}
use Rattle.settled.specs.Lines.{line_of}
use Rattle.checks.proofs.Awaiting.{rows_inside, is_recording, rows_held, knows, awaits}
use Rattle.checks.proofs.Judges.{looped, by_lines}

pub slice_bounds-rows-end : goal.slice_bounds-rows-end
slice_bounds-rows-end c = sym (length-take-le c.args.n c.args.rows.now (rows_inside c.args.sheet.now c.args.pairs.now c.requires.sound_book c.requires.sound_fit c.args.n c.args.recording c.requires.listed))

pub loop_of-requires-clause-holding : goal.loop_of-requires-clause-holding
loop_of-requires-clause-holding c = knows c.args.sheet.now c.args.pairs.now c.requires.sound_book c.requires.sound_fit c.args.n c.args.recording c.requires.listed (c.set_stretches-stretches.ensures.stretched (rows_in (book_of c.args.sheet.now c.args.pairs.now) (fit_of c.args.sheet.now c.args.pairs.now)) (rows_held c.args.sheet.now c.args.pairs.now c.requires.sound_book c.requires.sound_fit c.args.n c.args.recording c.requires.listed)) c.set_limits-limits.ensures.limits

pub returns-in-Some-clause-defined : goal.returns-in-Some-clause-defined
returns-in-Some-clause-defined c = looped (world_of (book_of c.args.sheet.now c.args.pairs.now) (fit_of c.args.sheet.now c.args.pairs.now) 0) (map line_of c.args.listing.now) _ (c.in-Some.ensures.defined (knows c.args.sheet.now c.args.pairs.now c.requires.sound_book c.requires.sound_fit c.args.n c.args.recording c.requires.listed (c.set_stretches-stretches.ensures.stretched (rows_in (book_of c.args.sheet.now c.args.pairs.now) (fit_of c.args.sheet.now c.args.pairs.now)) (rows_held c.args.sheet.now c.args.pairs.now c.requires.sound_book c.requires.sound_fit c.args.n c.args.recording c.requires.listed)) c.set_limits-limits.ensures.limits))

pub first_bad-requires : goal.first_bad-requires
first_bad-requires c = record { awaits = awaits c.args.sheet.now c.args.pairs.now c.requires.sound_book c.requires.sound_fit c.args.n c.args.recording c.requires.listed (c.set_stretches-stretches.ensures.stretched (rows_in (book_of c.args.sheet.now c.args.pairs.now) (fit_of c.args.sheet.now c.args.pairs.now)) (rows_held c.args.sheet.now c.args.pairs.now c.requires.sound_book c.requires.sound_fit c.args.n c.args.recording c.requires.listed)) c.set_limits-limits.ensures.limits (c.in_default.ensures.defined (knows c.args.sheet.now c.args.pairs.now c.requires.sound_book c.requires.sound_fit c.args.n c.args.recording c.requires.listed (c.set_stretches-stretches.ensures.stretched (rows_in (book_of c.args.sheet.now c.args.pairs.now) (fit_of c.args.sheet.now c.args.pairs.now)) (rows_held c.args.sheet.now c.args.pairs.now c.requires.sound_book c.requires.sound_fit c.args.n c.args.recording c.requires.listed)) c.set_limits-limits.ensures.limits)) c.args.values.now c.requires.few.0 }

pub returns-in-Some-first_bad-clause-defined : goal.returns-in-Some-first_bad-clause-defined
returns-in-Some-first_bad-clause-defined c = by_lines (world_of (book_of c.args.sheet.now c.args.pairs.now) (fit_of c.args.sheet.now c.args.pairs.now) 0) (map line_of c.args.listing.now) (c.in_default.ensures.defined (knows c.args.sheet.now c.args.pairs.now c.requires.sound_book c.requires.sound_fit c.args.n c.args.recording c.requires.listed (c.set_stretches-stretches.ensures.stretched (rows_in (book_of c.args.sheet.now c.args.pairs.now) (fit_of c.args.sheet.now c.args.pairs.now)) (rows_held c.args.sheet.now c.args.pairs.now c.requires.sound_book c.requires.sound_fit c.args.n c.args.recording c.requires.listed)) c.set_limits-limits.ensures.limits)) _ (c.in-Some-first_bad.ensures.defined (awaits c.args.sheet.now c.args.pairs.now c.requires.sound_book c.requires.sound_fit c.args.n c.args.recording c.requires.listed (c.set_stretches-stretches.ensures.stretched (rows_in (book_of c.args.sheet.now c.args.pairs.now) (fit_of c.args.sheet.now c.args.pairs.now)) (rows_held c.args.sheet.now c.args.pairs.now c.requires.sound_book c.requires.sound_fit c.args.n c.args.recording c.requires.listed)) c.set_limits-limits.ensures.limits (c.in_default.ensures.defined (knows c.args.sheet.now c.args.pairs.now c.requires.sound_book c.requires.sound_fit c.args.n c.args.recording c.requires.listed (c.set_stretches-stretches.ensures.stretched (rows_in (book_of c.args.sheet.now c.args.pairs.now) (fit_of c.args.sheet.now c.args.pairs.now)) (rows_held c.args.sheet.now c.args.pairs.now c.requires.sound_book c.requires.sound_fit c.args.n c.args.recording c.requires.listed)) c.set_limits-limits.ensures.limits)) c.args.values.now c.requires.few.0) (is_recording c.args.sheet.now c.args.pairs.now c.requires.sound_book c.requires.sound_fit c.args.n c.args.recording c.requires.listed))

pub returns-clause-defined : goal.returns-clause-defined
returns-clause-defined c = by_lines (world_of (book_of c.args.sheet.now c.args.pairs.now) (fit_of c.args.sheet.now c.args.pairs.now) 0) (map line_of c.args.listing.now) (c.in_default.ensures.defined (knows c.args.sheet.now c.args.pairs.now c.requires.sound_book c.requires.sound_fit c.args.n c.args.recording c.requires.listed (c.set_stretches-stretches.ensures.stretched (rows_in (book_of c.args.sheet.now c.args.pairs.now) (fit_of c.args.sheet.now c.args.pairs.now)) (rows_held c.args.sheet.now c.args.pairs.now c.requires.sound_book c.requires.sound_fit c.args.n c.args.recording c.requires.listed)) c.set_limits-limits.ensures.limits)) _ (c.in_default-first_bad.ensures.defined (awaits c.args.sheet.now c.args.pairs.now c.requires.sound_book c.requires.sound_fit c.args.n c.args.recording c.requires.listed (c.set_stretches-stretches.ensures.stretched (rows_in (book_of c.args.sheet.now c.args.pairs.now) (fit_of c.args.sheet.now c.args.pairs.now)) (rows_held c.args.sheet.now c.args.pairs.now c.requires.sound_book c.requires.sound_fit c.args.n c.args.recording c.requires.listed)) c.set_limits-limits.ensures.limits (c.in_default.ensures.defined (knows c.args.sheet.now c.args.pairs.now c.requires.sound_book c.requires.sound_fit c.args.n c.args.recording c.requires.listed (c.set_stretches-stretches.ensures.stretched (rows_in (book_of c.args.sheet.now c.args.pairs.now) (fit_of c.args.sheet.now c.args.pairs.now)) (rows_held c.args.sheet.now c.args.pairs.now c.requires.sound_book c.requires.sound_fit c.args.n c.args.recording c.requires.listed)) c.set_limits-limits.ensures.limits)) c.args.values.now c.requires.few.0) (is_recording c.args.sheet.now c.args.pairs.now c.requires.sound_book c.requires.sound_fit c.args.n c.args.recording c.requires.listed))
