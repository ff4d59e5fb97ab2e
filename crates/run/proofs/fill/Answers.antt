-- `run::fill` meets its contract. Assumes nothing.
use Rattle.run.proofs.fill.Goals as goal
use native.Mathlib.Omega.{arith}
use mathlib.Core.Path.{refl}
use Rattle.std.specs.Prelude.{Ok, Err}
use Rattle.std.proofs.lemmas.Result.{err_from_is_err_and}
use Rattle.run.specs.Filled.{columns}
use Rattle.run.proofs.Filling.{lent, values_lent, sources_lent, not_listed, recorded, listed_as, filled_as}

pub set_lists-requires : goal.set_lists-requires
set_lists-requires c = record {
  sound_book = c.requires.sound_book;
  sound_fit = c.requires.sound_fit;
  roomy = lent (columns c.args.collected.now c.args.collected_values.now c.args.rows.now c.args.bases.now c.args.values.now c.args.entries.now c.args.entry_values.now c.args.plain.now c.args.sources.now c.args.source_values.now) (record { collected = c.room_of.result; rows = c.room_of-2.result; entries = c.room_of-3.result; plain = c.room_of-4.result }) (record { collected = c.room_of.ensures.defined; rows = omega (arith, c.room_of-2.ensures.defined, c.min.ensures); entries = c.room_of-3.ensures.defined; plain = c.room_of-4.ensures.defined });
}

pub set_values-requires : goal.set_values-requires
set_values-requires c = record {
  sound_book = c.requires.sound_book;
  sound_fit = c.requires.sound_fit;
  listed = (listed_as c.args.book.now c.args.fit.now c.args.pairs.now c.requires.sound_fit (columns c.args.collected.now c.args.collected_values.now c.args.rows.now c.args.bases.now c.args.values.now c.args.entries.now c.args.entry_values.now c.args.plain.now c.args.sources.now c.args.source_values.now) (columns c.set_lists.new.collected c.set_lists.new.collected_values c.set_lists.new.rows c.set_lists.new.bases c.args.values.now c.set_lists.new.entries c.set_lists.new.entry_values c.set_lists.new.plain c.args.sources.now c.args.source_values.now) (record { collected = c.room_of.result; rows = c.room_of-2.result; entries = c.room_of-3.result; plain = c.room_of-4.result }) (record { collected = c.room_of.ensures.defined; rows = omega (arith, c.room_of-2.ensures.defined, c.min.ensures); entries = c.room_of-3.ensures.defined; plain = c.room_of-4.ensures.defined }) c.set_lists.new.rows c.correct_states.new.states c.in_ok-n.n c.in_ok-n.ensures.defined c.correct_states.ensures.defined _ _ (recorded c.args.fit.now c.args.pairs.now c.recording_of.ensures.defined));
  few = values_lent (columns c.args.collected.now c.args.collected_values.now c.args.rows.now c.args.bases.now c.args.values.now c.args.entries.now c.args.entry_values.now c.args.plain.now c.args.sources.now c.args.source_values.now) (record { collected = c.room_of.result; rows = c.room_of-2.result; entries = c.room_of-3.result; plain = c.room_of-4.result }) (record { collected = c.room_of.ensures.defined; rows = omega (arith, c.room_of-2.ensures.defined, c.min.ensures); entries = c.room_of-3.ensures.defined; plain = c.room_of-4.ensures.defined }) c.in_ok-n.n c.in_ok-n.ensures.within;
  roomy = sources_lent (columns c.args.collected.now c.args.collected_values.now c.args.rows.now c.args.bases.now c.args.values.now c.args.entries.now c.args.entry_values.now c.args.plain.now c.args.sources.now c.args.source_values.now) (record { collected = c.room_of.result; rows = c.room_of-2.result; entries = c.room_of-3.result; plain = c.room_of-4.result }) (record { collected = c.room_of.ensures.defined; rows = omega (arith, c.room_of-2.ensures.defined, c.min.ensures); entries = c.room_of-3.ensures.defined; plain = c.room_of-4.ensures.defined }) c.room_of-5.result c.room_of-5.ensures.defined;
}

pub returns-in_err-n : goal.returns-in_err-n
returns-in_err-n c = let p = err_from_is_err_and c.from_residual.result c.from_residual.ensures.1 in record { defined = rw (p.1, p.2) (not_listed c.args.book.now c.args.fit.now c.args.pairs.now c.requires.sound_fit (columns c.args.collected.now c.args.collected_values.now c.args.rows.now c.args.bases.now c.args.values.now c.args.entries.now c.args.entry_values.now c.args.plain.now c.args.sources.now c.args.source_values.now) (columns c.set_lists.new.collected c.set_lists.new.collected_values c.set_lists.new.rows c.set_lists.new.bases c.args.values.now c.set_lists.new.entries c.set_lists.new.entry_values c.set_lists.new.plain c.args.sources.now c.args.source_values.now) (record { collected = c.room_of.result; rows = c.room_of-2.result; entries = c.room_of-3.result; plain = c.room_of-4.result }) (record { collected = c.room_of.ensures.defined; rows = omega (arith, c.room_of-2.ensures.defined, c.min.ensures); entries = c.room_of-3.ensures.defined; plain = c.room_of-4.ensures.defined }) c.set_lists.new.rows c.correct_states.new.states _ c.in_err-n.ensures.defined) }

pub returns-in_err-used : goal.returns-in_err-used
returns-in_err-used c = let p = err_from_is_err_and c.from_residual-in_err-used.result c.from_residual-in_err-used.ensures.1 in record { defined = rw (p.1, p.2) (filled_as c.args.book.now c.args.fit.now c.args.pairs.now c.requires.sound_fit (columns c.args.collected.now c.args.collected_values.now c.args.rows.now c.args.bases.now c.args.values.now c.args.entries.now c.args.entry_values.now c.args.plain.now c.args.sources.now c.args.source_values.now) (columns c.set_lists.new.collected c.set_lists.new.collected_values c.set_values.new.rows c.set_lists.new.bases c.set_values.new.values c.set_lists.new.entries c.set_lists.new.entry_values c.set_lists.new.plain c.set_values.new.sources c.set_values.new.floats) (record { collected = c.room_of.result; rows = c.room_of-2.result; entries = c.room_of-3.result; plain = c.room_of-4.result }) (record { collected = c.room_of.ensures.defined; rows = omega (arith, c.room_of-2.ensures.defined, c.min.ensures); entries = c.room_of-3.ensures.defined; plain = c.room_of-4.ensures.defined }) c.set_lists.new.rows c.correct_states.new.states c.in_ok-n.n c.in_ok-n.ensures.defined c.correct_states.ensures.defined c.room_of-5.result _ (Err _) c.room_of-5.ensures.defined refl (c.in_err-used.ensures.defined (listed_as c.args.book.now c.args.fit.now c.args.pairs.now c.requires.sound_fit (columns c.args.collected.now c.args.collected_values.now c.args.rows.now c.args.bases.now c.args.values.now c.args.entries.now c.args.entry_values.now c.args.plain.now c.args.sources.now c.args.source_values.now) (columns c.set_lists.new.collected c.set_lists.new.collected_values c.set_lists.new.rows c.set_lists.new.bases c.args.values.now c.set_lists.new.entries c.set_lists.new.entry_values c.set_lists.new.plain c.args.sources.now c.args.source_values.now) (record { collected = c.room_of.result; rows = c.room_of-2.result; entries = c.room_of-3.result; plain = c.room_of-4.result }) (record { collected = c.room_of.ensures.defined; rows = omega (arith, c.room_of-2.ensures.defined, c.min.ensures); entries = c.room_of-3.ensures.defined; plain = c.room_of-4.ensures.defined }) c.set_lists.new.rows c.correct_states.new.states c.in_ok-n.n c.in_ok-n.ensures.defined c.correct_states.ensures.defined _ _ (recorded c.args.fit.now c.args.pairs.now c.recording_of.ensures.defined)))) }

pub returns : goal.returns
returns c = record { defined = filled_as c.args.book.now c.args.fit.now c.args.pairs.now c.requires.sound_fit (columns c.args.collected.now c.args.collected_values.now c.args.rows.now c.args.bases.now c.args.values.now c.args.entries.now c.args.entry_values.now c.args.plain.now c.args.sources.now c.args.source_values.now) (columns c.set_lists.new.collected c.set_lists.new.collected_values c.set_values.new.rows c.set_lists.new.bases c.set_values.new.values c.set_lists.new.entries c.set_lists.new.entry_values c.set_lists.new.plain c.set_values.new.sources c.set_values.new.floats) (record { collected = c.room_of.result; rows = c.room_of-2.result; entries = c.room_of-3.result; plain = c.room_of-4.result }) (record { collected = c.room_of.ensures.defined; rows = omega (arith, c.room_of-2.ensures.defined, c.min.ensures); entries = c.room_of-3.ensures.defined; plain = c.room_of-4.ensures.defined }) c.set_lists.new.rows c.correct_states.new.states c.in_ok-n.n c.in_ok-n.ensures.defined c.correct_states.ensures.defined c.room_of-5.result c.count_of.result (Ok c.in_ok-used.used) c.room_of-5.ensures.defined c.count_of.ensures.defined (c.in_ok-used.ensures.defined (listed_as c.args.book.now c.args.fit.now c.args.pairs.now c.requires.sound_fit (columns c.args.collected.now c.args.collected_values.now c.args.rows.now c.args.bases.now c.args.values.now c.args.entries.now c.args.entry_values.now c.args.plain.now c.args.sources.now c.args.source_values.now) (columns c.set_lists.new.collected c.set_lists.new.collected_values c.set_lists.new.rows c.set_lists.new.bases c.args.values.now c.set_lists.new.entries c.set_lists.new.entry_values c.set_lists.new.plain c.args.sources.now c.args.source_values.now) (record { collected = c.room_of.result; rows = c.room_of-2.result; entries = c.room_of-3.result; plain = c.room_of-4.result }) (record { collected = c.room_of.ensures.defined; rows = omega (arith, c.room_of-2.ensures.defined, c.min.ensures); entries = c.room_of-3.ensures.defined; plain = c.room_of-4.ensures.defined }) c.set_lists.new.rows c.correct_states.new.states c.in_ok-n.n c.in_ok-n.ensures.defined c.correct_states.ensures.defined _ _ (recorded c.args.fit.now c.args.pairs.now c.recording_of.ensures.defined))) }
