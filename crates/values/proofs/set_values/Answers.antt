-- `values::set_values` meets its contract. Assumes nothing.
use Rattle.values.proofs.set_values.Goals as goal
use native.Mathlib.Omega.{arith}
use mathlib.Core.Path.{◌≡◌, refl, sym}
use lib.Seq.{length-take-le}
use Rattle.rules.specs.Sheet.{book_of, fit_of}
use Rattle.rules.specs.Outcome.{rows_in}
use Rattle.values.proofs.Setting.{is_dispatched, is_planning, rows_wide, bases_wide, rows_held, walkable, set_as}

pub plan_sources-requires : goal.plan_sources-requires
plan_sources-requires c = record { planning = is_planning c.args.book.now c.args.fit.now c.args.pairs.now c.requires.sound_book c.requires.sound_fit c.args.n c.args.run c.requires.listed }

pub slice_bounds-set_stretches-end : goal.slice_bounds-set_stretches-end
slice_bounds-set_stretches-end c = omega (arith, rows_wide c.args.book.now c.args.fit.now c.args.pairs.now c.requires.sound_book c.requires.sound_fit c.args.n c.args.run c.requires.listed, c.plan_sources.auto.rows)

pub slice_bounds-set_stretches-end-2 : goal.slice_bounds-set_stretches-end-2
slice_bounds-set_stretches-end-2 c = sym (length-take-le c.args.n c.plan_sources.new.rows (omega (arith, rows_wide c.args.book.now c.args.fit.now c.args.pairs.now c.requires.sound_book c.requires.sound_fit c.args.n c.args.run c.requires.listed, c.plan_sources.auto.rows)))

pub set_stretches-stretches-requires : goal.set_stretches-stretches-requires
set_stretches-stretches-requires c = record { few = omega (arith, length-take-le c.args.n c.plan_sources.new.rows (omega (arith, rows_wide c.args.book.now c.args.fit.now c.args.pairs.now c.requires.sound_book c.requires.sound_fit c.args.n c.args.run c.requires.listed, c.plan_sources.auto.rows)), c.requires.few.1) }

pub slice_bounds-calculate_values-end : goal.slice_bounds-calculate_values-end
slice_bounds-calculate_values-end c = omega (arith, c.requires.few.0, c.unstarted.auto.values)

pub slice_bounds-calculate_values-end-2 : goal.slice_bounds-calculate_values-end-2
slice_bounds-calculate_values-end-2 c = sym (length-take-le c.args.n c.unstarted.new.values (omega (arith, c.requires.few.0, c.unstarted.auto.values)))

pub slice_bounds-columns-end : goal.slice_bounds-columns-end
slice_bounds-columns-end c = omega (arith, rows_wide c.args.book.now c.args.fit.now c.args.pairs.now c.requires.sound_book c.requires.sound_fit c.args.n c.args.run c.requires.listed, c.plan_sources.auto.rows)

pub slice_bounds-columns-end-2 : goal.slice_bounds-columns-end-2
slice_bounds-columns-end-2 c = sym (length-take-le c.args.n c.plan_sources.new.rows (omega (arith, rows_wide c.args.book.now c.args.fit.now c.args.pairs.now c.requires.sound_book c.requires.sound_fit c.args.n c.args.run c.requires.listed, c.plan_sources.auto.rows)))

pub slice_bounds-columns-end-3 : goal.slice_bounds-columns-end-3
slice_bounds-columns-end-3 c = sym (length-take-le c.args.n c.args.bases.now (bases_wide c.args.book.now c.args.fit.now c.args.pairs.now c.requires.sound_book c.requires.sound_fit c.args.n c.args.run c.requires.listed))

pub calculate_values-requires : goal.calculate_values-requires
calculate_values-requires c = record {
  holding = (walkable c.args.book.now c.args.fit.now c.args.pairs.now c.requires.sound_book c.requires.sound_fit c.args.n c.args.run c.requires.listed (c.plan_sources.ensures.defined (rows_in (book_of c.args.book.now c.args.pairs.now) (fit_of c.args.fit.now c.args.pairs.now)) (is_dispatched c.args.book.now c.args.fit.now c.args.pairs.now c.requires.sound_book c.requires.sound_fit c.args.n c.args.run c.requires.listed)) c.requires.roomy.0 c.requires.roomy.1 c.args.values.now c.unstarted.ensures.defined (c.set_stretches-stretches.ensures.stretched (rows_in (book_of c.args.book.now c.args.pairs.now) (fit_of c.args.fit.now c.args.pairs.now)) (rows_held c.args.book.now c.args.fit.now c.args.pairs.now c.requires.sound_book c.requires.sound_fit c.args.n c.args.run c.requires.listed (c.plan_sources.ensures.defined (rows_in (book_of c.args.book.now c.args.pairs.now) (fit_of c.args.fit.now c.args.pairs.now)) (is_dispatched c.args.book.now c.args.fit.now c.args.pairs.now c.requires.sound_book c.requires.sound_fit c.args.n c.args.run c.requires.listed)))) c.set_limits-limits.ensures.limits);
  sound = c.requires.sound_fit;
}

pub returns : goal.returns
returns c = record { defined = λ h. set_as c.args.book.now c.args.fit.now c.args.pairs.now c.requires.sound_book c.requires.sound_fit c.args.n c.args.run h (c.plan_sources.ensures.defined (rows_in (book_of c.args.book.now c.args.pairs.now) (fit_of c.args.fit.now c.args.pairs.now)) (is_dispatched c.args.book.now c.args.fit.now c.args.pairs.now c.requires.sound_book c.requires.sound_fit c.args.n c.args.run h)) c.args.values.now c.requires.few.0 c.unstarted.ensures.defined c.args.sources.now c.args.floats.now c.requires.roomy.0 c.requires.roomy.1 c.requires.roomy.2 c.calculate_values.new.values refl c.calculate_values.new.sources c.calculate_values.new.floats (c.set_stretches-stretches.ensures.stretched (rows_in (book_of c.args.book.now c.args.pairs.now) (fit_of c.args.fit.now c.args.pairs.now)) (rows_held c.args.book.now c.args.fit.now c.args.pairs.now c.requires.sound_book c.requires.sound_fit c.args.n c.args.run h (c.plan_sources.ensures.defined (rows_in (book_of c.args.book.now c.args.pairs.now) (fit_of c.args.fit.now c.args.pairs.now)) (is_dispatched c.args.book.now c.args.fit.now c.args.pairs.now c.requires.sound_book c.requires.sound_fit c.args.n c.args.run h)))) c.set_limits-limits.ensures.limits c.calculate_values.result c.calculate_values.ensures.defined }
