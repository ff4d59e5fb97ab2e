-- `checks::answered` meets its contract.
use Rattle.checks.proofs.answered.Goals as goal
use mathlib.Core.Path.{refl}
use mathlib.Core.List.{[], map}
use lib.ListN.{length}
use Rattle.std.proofs.lemmas.Result.{err_from_is_err_and}
use Rattle.run.specs.Filled.{columns, lent_of}
use Rattle.run.proofs.Filling.{recorded}
use Rattle.settled.specs.Lines.{line_of}
use Rattle.checks.specs.Check.{check_rooms}
use Rattle.checks.proofs.Entering.{long_enough, book_sound, fit_sound, bad_shape_lem, lists_refused, rows_listed, verdict_checked, left_by}

pub returns-in_err-shape-clause-verdict : goal.returns-in_err-shape-clause-verdict
returns-in_err-shape-clause-verdict c = let p = err_from_is_err_and c.from_residual.result c.from_residual.ensures.1 in rw (p.1, p.2) (bad_shape_lem c.args.sheet.now c.shape.ensures.defined (check_rooms (lent_of (columns c.args.collected.now c.args.collected_values.now c.args.rows.now c.args.bases.now c.args.values.now c.args.entries.now c.args.entry_values.now c.args.plain.now [] [])) (length c.args.work.now)) (map line_of c.args.listing.now) c.in_err-shape.was)

pub pairs_of-pairs-requires : goal.pairs_of-pairs-requires
pairs_of-pairs-requires c = record { a_header = long_enough c.args.sheet.now c.shape.ensures.defined c.in_ok-shape.was }

pub set_sheet-requires-clause-sound_book : goal.set_sheet-requires-clause-sound_book
set_sheet-requires-clause-sound_book c = book_sound c.args.sheet.now c.shape.ensures.defined c.in_ok-shape.was c.pairs_of-pairs.ensures.defined

pub set_sheet-requires-clause-sound_fit : goal.set_sheet-requires-clause-sound_fit
set_sheet-requires-clause-sound_fit c = fit_sound c.args.sheet.now c.shape.ensures.defined c.in_ok-shape.was c.pairs_of-pairs.ensures.defined

pub returns-in_err-counts-clause-verdict : goal.returns-in_err-counts-clause-verdict
returns-in_err-counts-clause-verdict c = let p = err_from_is_err_and c.from_residual-in_err-counts.result c.from_residual-in_err-counts.ensures.1 in rw (p.1, p.2) (lists_refused c.args.sheet.now c.shape.ensures.defined c.in_ok-shape.was c.pairs_of-pairs.ensures.defined (columns c.args.collected.now c.args.collected_values.now c.args.rows.now c.args.bases.now c.args.values.now c.args.entries.now c.args.entry_values.now c.args.plain.now [] []) (columns c.set_sheet.new.collected c.set_sheet.new.collected_values c.set_sheet.new.rows c.set_sheet.new.bases c.args.values.now c.set_sheet.new.entries c.set_sheet.new.entry_values c.set_sheet.new.plain [] []) (length c.args.work.now) c.rooms_of-rooms.result c.rooms_of-rooms.ensures.defined c.set_sheet.new.states c.set_sheet.result (map line_of c.args.listing.now) c.in_err-counts.was c.set_sheet.ensures.defined)

pub recording_of-requires : goal.recording_of-requires
recording_of-requires c = record { a_header = (fit_sound c.args.sheet.now c.shape.ensures.defined c.in_ok-shape.was c.pairs_of-pairs.ensures.defined).held.header }

pub judged-requires-clause-sound_book : goal.judged-requires-clause-sound_book
judged-requires-clause-sound_book c = book_sound c.args.sheet.now c.shape.ensures.defined c.in_ok-shape.was c.pairs_of-pairs.ensures.defined

pub judged-requires-clause-sound_fit : goal.judged-requires-clause-sound_fit
judged-requires-clause-sound_fit c = fit_sound c.args.sheet.now c.shape.ensures.defined c.in_ok-shape.was c.pairs_of-pairs.ensures.defined

pub judged-requires-clause-listed : goal.judged-requires-clause-listed
judged-requires-clause-listed c = rows_listed c.args.sheet.now c.shape.ensures.defined c.in_ok-shape.was c.pairs_of-pairs.ensures.defined (columns c.args.collected.now c.args.collected_values.now c.args.rows.now c.args.bases.now c.args.values.now c.args.entries.now c.args.entry_values.now c.args.plain.now [] []) (columns c.set_sheet.new.collected c.set_sheet.new.collected_values c.set_sheet.new.rows c.set_sheet.new.bases c.args.values.now c.set_sheet.new.entries c.set_sheet.new.entry_values c.set_sheet.new.plain [] []) (length c.args.work.now) c.rooms_of-rooms.result c.rooms_of-rooms.ensures.defined c.set_sheet.new.states c.set_sheet.result c.in_ok-counts.was c.set_sheet.ensures.defined c.set_sheet.ensures.states _ (recorded c.args.sheet.now c.pairs_of-pairs.result c.recording_of.ensures.defined)

pub returns-in_err-judged-clause-verdict : goal.returns-in_err-judged-clause-verdict
returns-in_err-judged-clause-verdict c = let p = err_from_is_err_and c.from_residual-in_err-judged.result c.from_residual-in_err-judged.ensures.1 in rw (p.1, p.2) (verdict_checked c.args.sheet.now c.shape.ensures.defined c.in_ok-shape.was c.pairs_of-pairs.ensures.defined (columns c.args.collected.now c.args.collected_values.now c.args.rows.now c.args.bases.now c.args.values.now c.args.entries.now c.args.entry_values.now c.args.plain.now [] []) (columns c.set_sheet.new.collected c.set_sheet.new.collected_values c.set_sheet.new.rows c.set_sheet.new.bases c.args.values.now c.set_sheet.new.entries c.set_sheet.new.entry_values c.set_sheet.new.plain [] []) (length c.args.work.now) c.rooms_of-rooms.result c.rooms_of-rooms.ensures.defined c.set_sheet.new.states c.set_sheet.result c.in_ok-counts.was c.set_sheet.ensures.defined c.set_sheet.ensures.states _ (map line_of c.args.listing.now) c.in_err-judged.ensures.defined)

pub returns-clause-verdict : goal.returns-clause-verdict
returns-clause-verdict c = verdict_checked c.args.sheet.now c.shape.ensures.defined c.in_ok-shape.was c.pairs_of-pairs.ensures.defined (columns c.args.collected.now c.args.collected_values.now c.args.rows.now c.args.bases.now c.args.values.now c.args.entries.now c.args.entry_values.now c.args.plain.now [] []) (columns c.set_sheet.new.collected c.set_sheet.new.collected_values c.set_sheet.new.rows c.set_sheet.new.bases c.args.values.now c.set_sheet.new.entries c.set_sheet.new.entry_values c.set_sheet.new.plain [] []) (length c.args.work.now) c.rooms_of-rooms.result c.rooms_of-rooms.ensures.defined c.set_sheet.new.states c.set_sheet.result c.in_ok-counts.was c.set_sheet.ensures.defined c.set_sheet.ensures.states _ (map line_of c.args.listing.now) c.in_ok-judged.ensures.defined

pub returns-clause-left : goal.returns-clause-left
returns-clause-left c = left_by c.args.sheet.now c.shape.ensures.defined c.in_ok-shape.was c.pairs_of-pairs.ensures.defined (columns c.args.collected.now c.args.collected_values.now c.args.rows.now c.args.bases.now c.args.values.now c.args.entries.now c.args.entry_values.now c.args.plain.now [] []) (columns c.set_sheet.new.collected c.set_sheet.new.collected_values c.set_sheet.new.rows c.set_sheet.new.bases c.judged.new.values c.set_sheet.new.entries c.set_sheet.new.entry_values c.set_sheet.new.plain [] []) (length c.args.work.now) c.rooms_of-rooms.result c.rooms_of-rooms.ensures.defined c.set_sheet.new.states c.set_sheet.result c.in_ok-counts.was c.set_sheet.ensures.defined c.set_sheet.ensures.states c.count_of.result c.count_of.ensures.defined c.args.listing.now c.in_ok-judged.ensures.defined c.in_ok-judged.ensures.laid refl refl refl refl
