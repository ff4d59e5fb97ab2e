-- `lists::set_lists` meets its contract. Assumes nothing.
use Rattle.run.proofs.lists.set_lists.Goals as goal
use mathlib.Core.Path.{refl}
use native.Mathlib.Omega.{arith}
use Rattle.std.specs.Prelude.{Ok, Err}
use Rattle.std.proofs.lemmas.Result.{err_from_is_err_and}
use Rattle.rules.specs.Sheet.{book_of, fit_of}
use Rattle.run.proofs.Answers.{no_base_room, collecting, few, collection_refused, all_listed, all-within, rooms_by}

pub returns-then-rooms-base-clause-defined : goal.returns-then-rooms-base-clause-defined
returns-then-rooms-base-clause-defined c = λ q Q. no_base_room (book_of c.args.book.now c.args.pairs.now) (fit_of c.args.fit.now c.args.pairs.now) c.args.rooms q Q (omega (arith, c.if-rooms-base.true, c.base_total-base.ensures.defined))

pub dispatch-requires : goal.dispatch-requires
dispatch-requires c = record {
  sound_book = c.requires.sound_book;
  sound_fit = c.requires.sound_fit;
  collected_effects = collecting c.args.book.now c.args.fit.now c.args.pairs.now c.requires.sound_fit c.args.rooms c.requires.roomy (Ok c.in_ok-counts.counts) c.collect.new.collected c.collect.new.collected_values c.collect.new.plain c.in_ok-counts.ensures.defined refl;
  inside = (c.requires.roomy.rows, c.requires.roomy.bases, omega (arith, c.if-rooms-base.false, c.base_total-base.ensures.defined));
  entries_inside = (c.requires.roomy.entries, c.requires.roomy.entry_values, few c.args.book.now c.args.fit.now c.args.pairs.now c.requires.sound_fit c.args.rooms c.requires.roomy (Ok c.in_ok-counts.counts) c.collect.new.collected c.collect.new.collected_values c.collect.new.plain c.in_ok-counts.ensures.defined refl, c.requires.roomy.entries_few);
}

pub returns-in_err-counts : goal.returns-in_err-counts
returns-in_err-counts c = let p = err_from_is_err_and c.from_residual.result c.from_residual.ensures.1 in record {
  defined = λ q Q. rw (p.1, p.2) (collection_refused c.args.book.now c.args.fit.now c.args.pairs.now c.requires.sound_fit c.args.rooms c.requires.roomy _ c.collect.new.collected c.collect.new.collected_values c.collect.new.plain c.in_err-counts.ensures.defined q Q (omega (arith, c.if-rooms-base.false, c.base_total-base.ensures.defined)) refl);
  within = rw p.1 tt;
}

pub returns-in_err-dispatched : goal.returns-in_err-dispatched
returns-in_err-dispatched c = let p = err_from_is_err_and c.from_residual-in_err-dispatched.result c.from_residual-in_err-dispatched.ensures.1 in record {
  defined = λ q Q. rw (p.1, p.2) (all_listed c.args.book.now c.args.fit.now c.args.pairs.now c.requires.sound_fit c.args.rooms c.requires.roomy (Ok c.in_ok-counts.counts) c.collect.new.collected c.collect.new.collected_values c.collect.new.plain c.in_ok-counts.ensures.defined refl c.dispatch.new.rows c.dispatch.new.bases c.dispatch.new.entries c.dispatch.new.values (omega (arith, c.if-rooms-base.false, c.base_total-base.ensures.defined)) q Q (Err _) c.in_err-dispatched.ensures.defined);
  within = rw p.1 tt;
}

pub returns-clause-defined : goal.returns-clause-defined
returns-clause-defined c = λ q Q. all_listed c.args.book.now c.args.fit.now c.args.pairs.now c.requires.sound_fit c.args.rooms c.requires.roomy (Ok c.in_ok-counts.counts) c.collect.new.collected c.collect.new.collected_values c.collect.new.plain c.in_ok-counts.ensures.defined refl c.dispatch.new.rows c.dispatch.new.bases c.dispatch.new.entries c.dispatch.new.values (omega (arith, c.if-rooms-base.false, c.base_total-base.ensures.defined)) q Q (Ok c.in_ok-dispatched.dispatched) c.in_ok-dispatched.ensures.defined

pub returns-clause-within : goal.returns-clause-within
returns-clause-within c = all-within c.args.book.now c.args.fit.now c.args.pairs.now c.requires.sound_fit c.args.rooms c.requires.roomy (Ok c.in_ok-counts.counts) c.collect.new.collected c.collect.new.collected_values c.collect.new.plain c.in_ok-counts.ensures.defined refl c.dispatch.new.rows c.dispatch.new.bases c.dispatch.new.entries c.dispatch.new.values (omega (arith, c.if-rooms-base.false, c.base_total-base.ensures.defined)) (rooms_by c.args.rooms) (record { collected = refl; rows = refl; entries = refl; plain = refl }) (Ok c.in_ok-dispatched.dispatched) c.in_ok-dispatched.ensures.defined
