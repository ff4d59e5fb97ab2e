-- `object_lists::all_lists` meets its contract.
use Rattle.rows.proofs.object_lists.all_lists.Goals as goal
use native.Mathlib.Omega.{arith}
use mathlib.Core.Path.{refl}
use Rattle.rules.specs.Bytes.{count_of}
use Rattle.rules.specs.Sheet.{book_of, fit_of}
use Rattle.rows.proofs.Together.{turns_none, turn_ordered, turn_entries, turn_values, turn_few, turn_even, turn-fits, turn-numbered, turn_stretch, turn-full, turn-next, turns_all}

pub loop-i-init : goal.loop-i-init
loop-i-init c = turns_none (book_of c.args.book.now c.args.pairs.now) (fit_of c.args.fit.now c.args.pairs.now) c.args.collected.now c.args.collected_values.now (count_of c.args.pairs.now 6) c.args.rows.now c.args.bases.now c.args.entries.now c.args.values.now c.args.ends.now c.args.room

pub offset_bounds-entries-from : goal.offset_bounds-entries-from
offset_bounds-entries-from c = omega (arith, c.loop-i.invariant.inside, c.loop-i.invariant.rows_long, c.loop-i.invariant.bases_long, c.loop-i.invariant.entries_long, c.loop-i.invariant.values_long, c.requires.inside.0, c.requires.inside.1, turn_ordered (book_of c.args.book.now c.args.pairs.now) (fit_of c.args.fit.now c.args.pairs.now) c.args.collected.now c.args.collected_values.now (count_of c.args.pairs.now 6) c.args.rows.now c.args.bases.now c.args.entries.now c.args.values.now c.args.ends.now c.args.room c.requires.listed c.requires.parted c.loop-i.invariant (omega (arith, c.count_of-objects.ensures.defined, c.loop-i-test.true)) c.index-end.result c.index-end.ensures.defined.0, turn_entries (book_of c.args.book.now c.args.pairs.now) (fit_of c.args.fit.now c.args.pairs.now) c.args.collected.now c.args.collected_values.now (count_of c.args.pairs.now 6) c.args.rows.now c.args.bases.now c.args.entries.now c.args.values.now c.args.ends.now c.args.room c.requires.listed c.requires.parted c.loop-i.invariant (omega (arith, c.count_of-objects.ensures.defined, c.loop-i-test.true)) c.index-end.result c.index-end.ensures.defined.0, turn_values (book_of c.args.book.now c.args.pairs.now) (fit_of c.args.fit.now c.args.pairs.now) c.args.collected.now c.args.collected_values.now (count_of c.args.pairs.now 6) c.args.rows.now c.args.bases.now c.args.entries.now c.args.values.now c.args.ends.now c.args.room c.requires.listed c.requires.parted c.loop-i.invariant (omega (arith, c.count_of-objects.ensures.defined, c.loop-i-test.true)) c.index-end.result c.index-end.ensures.defined.0, c.well_formed.0, c.well_formed.1.0, c.well_formed.1.1.0, c.well_formed.1.1.1.0)

pub slice_bounds-object_lists-count-in-loop-i-2 : goal.slice_bounds-object_lists-count-in-loop-i-2
slice_bounds-object_lists-count-in-loop-i-2 c = turn_ordered (book_of c.args.book.now c.args.pairs.now) (fit_of c.args.fit.now c.args.pairs.now) c.args.collected.now c.args.collected_values.now (count_of c.args.pairs.now 6) c.args.rows.now c.args.bases.now c.args.entries.now c.args.values.now c.args.ends.now c.args.room c.requires.listed c.requires.parted c.loop-i.invariant (omega (arith, c.count_of-objects.ensures.defined, c.loop-i-test.true)) c.index-end.result c.index-end.ensures.defined.0

pub slice_bounds-object_lists-start-in-loop-i-2 : goal.slice_bounds-object_lists-start-in-loop-i-2
slice_bounds-object_lists-start-in-loop-i-2 c = turn_ordered (book_of c.args.book.now c.args.pairs.now) (fit_of c.args.fit.now c.args.pairs.now) c.args.collected.now c.args.collected_values.now (count_of c.args.pairs.now 6) c.args.rows.now c.args.bases.now c.args.entries.now c.args.values.now c.args.ends.now c.args.room c.requires.listed c.requires.parted c.loop-i.invariant (omega (arith, c.count_of-objects.ensures.defined, c.loop-i-test.true)) c.index-end.result c.index-end.ensures.defined.0

pub slice_bounds-object_lists-end-in-loop-i-2 : goal.slice_bounds-object_lists-end-in-loop-i-2
slice_bounds-object_lists-end-in-loop-i-2 c = turn_entries (book_of c.args.book.now c.args.pairs.now) (fit_of c.args.fit.now c.args.pairs.now) c.args.collected.now c.args.collected_values.now (count_of c.args.pairs.now 6) c.args.rows.now c.args.bases.now c.args.entries.now c.args.values.now c.args.ends.now c.args.room c.requires.listed c.requires.parted c.loop-i.invariant (omega (arith, c.count_of-objects.ensures.defined, c.loop-i-test.true)) c.index-end.result c.index-end.ensures.defined.0

pub offset_bounds-values-from : goal.offset_bounds-values-from
offset_bounds-values-from c = omega (arith, c.loop-i.invariant.inside, c.loop-i.invariant.rows_long, c.loop-i.invariant.bases_long, c.loop-i.invariant.entries_long, c.loop-i.invariant.values_long, c.requires.inside.0, c.requires.inside.1, turn_ordered (book_of c.args.book.now c.args.pairs.now) (fit_of c.args.fit.now c.args.pairs.now) c.args.collected.now c.args.collected_values.now (count_of c.args.pairs.now 6) c.args.rows.now c.args.bases.now c.args.entries.now c.args.values.now c.args.ends.now c.args.room c.requires.listed c.requires.parted c.loop-i.invariant (omega (arith, c.count_of-objects.ensures.defined, c.loop-i-test.true)) c.index-end.result c.index-end.ensures.defined.0, turn_entries (book_of c.args.book.now c.args.pairs.now) (fit_of c.args.fit.now c.args.pairs.now) c.args.collected.now c.args.collected_values.now (count_of c.args.pairs.now 6) c.args.rows.now c.args.bases.now c.args.entries.now c.args.values.now c.args.ends.now c.args.room c.requires.listed c.requires.parted c.loop-i.invariant (omega (arith, c.count_of-objects.ensures.defined, c.loop-i-test.true)) c.index-end.result c.index-end.ensures.defined.0, turn_values (book_of c.args.book.now c.args.pairs.now) (fit_of c.args.fit.now c.args.pairs.now) c.args.collected.now c.args.collected_values.now (count_of c.args.pairs.now 6) c.args.rows.now c.args.bases.now c.args.entries.now c.args.values.now c.args.ends.now c.args.room c.requires.listed c.requires.parted c.loop-i.invariant (omega (arith, c.count_of-objects.ensures.defined, c.loop-i-test.true)) c.index-end.result c.index-end.ensures.defined.0, c.well_formed.0, c.well_formed.1.0, c.well_formed.1.1.0, c.well_formed.1.1.1.0)

pub slice_bounds-object_lists-count-in-loop-i-3 : goal.slice_bounds-object_lists-count-in-loop-i-3
slice_bounds-object_lists-count-in-loop-i-3 c = turn_ordered (book_of c.args.book.now c.args.pairs.now) (fit_of c.args.fit.now c.args.pairs.now) c.args.collected.now c.args.collected_values.now (count_of c.args.pairs.now 6) c.args.rows.now c.args.bases.now c.args.entries.now c.args.values.now c.args.ends.now c.args.room c.requires.listed c.requires.parted c.loop-i.invariant (omega (arith, c.count_of-objects.ensures.defined, c.loop-i-test.true)) c.index-end.result c.index-end.ensures.defined.0

pub slice_bounds-object_lists-start-in-loop-i-3 : goal.slice_bounds-object_lists-start-in-loop-i-3
slice_bounds-object_lists-start-in-loop-i-3 c = turn_ordered (book_of c.args.book.now c.args.pairs.now) (fit_of c.args.fit.now c.args.pairs.now) c.args.collected.now c.args.collected_values.now (count_of c.args.pairs.now 6) c.args.rows.now c.args.bases.now c.args.entries.now c.args.values.now c.args.ends.now c.args.room c.requires.listed c.requires.parted c.loop-i.invariant (omega (arith, c.count_of-objects.ensures.defined, c.loop-i-test.true)) c.index-end.result c.index-end.ensures.defined.0

pub slice_bounds-object_lists-end-in-loop-i-3 : goal.slice_bounds-object_lists-end-in-loop-i-3
slice_bounds-object_lists-end-in-loop-i-3 c = turn_values (book_of c.args.book.now c.args.pairs.now) (fit_of c.args.fit.now c.args.pairs.now) c.args.collected.now c.args.collected_values.now (count_of c.args.pairs.now 6) c.args.rows.now c.args.bases.now c.args.entries.now c.args.values.now c.args.ends.now c.args.room c.requires.listed c.requires.parted c.loop-i.invariant (omega (arith, c.count_of-objects.ensures.defined, c.loop-i-test.true)) c.index-end.result c.index-end.ensures.defined.0

pub overflow_cast-from : goal.overflow_cast-from
overflow_cast-from c = omega (arith, turn_ordered (book_of c.args.book.now c.args.pairs.now) (fit_of c.args.fit.now c.args.pairs.now) c.args.collected.now c.args.collected_values.now (count_of c.args.pairs.now 6) c.args.rows.now c.args.bases.now c.args.entries.now c.args.values.now c.args.ends.now c.args.room c.requires.listed c.requires.parted c.loop-i.invariant (omega (arith, c.count_of-objects.ensures.defined, c.loop-i-test.true)) c.index-end.result c.index-end.ensures.defined.0, turn_few (book_of c.args.book.now c.args.pairs.now) (fit_of c.args.fit.now c.args.pairs.now) c.args.collected.now c.args.collected_values.now (count_of c.args.pairs.now 6) c.args.rows.now c.args.bases.now c.args.entries.now c.args.values.now c.args.ends.now c.args.room c.requires.listed c.requires.parted c.loop-i.invariant (omega (arith, c.count_of-objects.ensures.defined, c.loop-i-test.true)) c.index-end.result c.index-end.ensures.defined.0)

pub object_lists-requires : goal.object_lists-requires
object_lists-requires c = record {
  sound_book = c.requires.sound_book;
  sound_fit = c.requires.sound_fit;
  an_object = (omega (arith, c.count_of-objects.ensures.defined, c.loop-i-test.true));
  listed = c.requires.listed;
  even = (turn_stretch (book_of c.args.book.now c.args.pairs.now) (fit_of c.args.fit.now c.args.pairs.now) c.args.collected.now c.args.collected_values.now (count_of c.args.pairs.now 6) c.args.rows.now c.args.bases.now c.args.entries.now c.args.values.now c.args.ends.now c.args.room c.requires.listed c.requires.parted c.loop-i.invariant (omega (arith, c.count_of-objects.ensures.defined, c.loop-i-test.true)) c.index-end.result c.index-end.ensures.defined.0 c.requires.inside.0 c.requires.inside.1, turn_even (book_of c.args.book.now c.args.pairs.now) (fit_of c.args.fit.now c.args.pairs.now) c.args.collected.now c.args.collected_values.now (count_of c.args.pairs.now 6) c.args.rows.now c.args.bases.now c.args.entries.now c.args.values.now c.args.ends.now c.args.room c.requires.listed c.requires.parted c.loop-i.invariant (omega (arith, c.count_of-objects.ensures.defined, c.loop-i-test.true)) c.index-end.result c.index-end.ensures.defined.0);
  numbered = (turn-numbered (book_of c.args.book.now c.args.pairs.now) (fit_of c.args.fit.now c.args.pairs.now) c.args.collected.now c.args.collected_values.now (count_of c.args.pairs.now 6) c.args.rows.now c.args.bases.now c.args.entries.now c.args.values.now c.args.ends.now c.args.room c.requires.listed c.requires.parted c.loop-i.invariant (omega (arith, c.count_of-objects.ensures.defined, c.loop-i-test.true)) c.index-end.result c.index-end.ensures.defined.0, turn-fits (book_of c.args.book.now c.args.pairs.now) (fit_of c.args.fit.now c.args.pairs.now) c.args.collected.now c.args.collected_values.now (count_of c.args.pairs.now 6) c.args.rows.now c.args.bases.now c.args.entries.now c.args.values.now c.args.ends.now c.args.room c.requires.listed c.requires.parted c.loop-i.invariant (omega (arith, c.count_of-objects.ensures.defined, c.loop-i-test.true)) c.index-end.result c.index-end.ensures.defined.0);
}

pub returns-in_err-n : goal.returns-in_err-n
returns-in_err-n c = rw c.from_residual.ensures (record { laid = turn-full (book_of c.args.book.now c.args.pairs.now) (fit_of c.args.fit.now c.args.pairs.now) c.args.collected.now c.args.collected_values.now (count_of c.args.pairs.now 6) c.args.rows.now c.args.bases.now c.args.entries.now c.args.values.now c.args.ends.now c.args.room c.requires.listed c.requires.parted c.loop-i.invariant (omega (arith, c.count_of-objects.ensures.defined, c.loop-i-test.true)) c.index-end.result c.index-end.ensures.defined.0 c.requires.inside.0 c.requires.inside.1 c.object_lists.result c.object_lists.new.rows c.object_lists.new.bases c.object_lists.new.segment c.object_lists.new.values c.object_lists.ensures.laid c.in_err-n.was })

pub overflow_add-n : goal.overflow_add-n
overflow_add-n c = omega (arith, (turn-next (book_of c.args.book.now c.args.pairs.now) (fit_of c.args.fit.now c.args.pairs.now) c.args.collected.now c.args.collected_values.now (count_of c.args.pairs.now 6) c.args.rows.now c.args.bases.now c.args.entries.now c.args.values.now c.args.ends.now c.args.room c.requires.listed c.requires.parted c.loop-i.invariant (omega (arith, c.count_of-objects.ensures.defined, c.loop-i-test.true)) c.index-end.result c.index-end.ensures.defined.0 c.requires.inside.0 c.requires.inside.1 c.object_lists.result c.object_lists.new.rows c.object_lists.new.bases c.object_lists.new.segment c.object_lists.new.values c.object_lists.ensures.laid c.in_ok-n.was c.object_lists.auto.segment c.object_lists.auto.values refl refl refl refl).inside, c.ranges.room)

pub loop-i-preserved : goal.loop-i-preserved
loop-i-preserved c = turn-next (book_of c.args.book.now c.args.pairs.now) (fit_of c.args.fit.now c.args.pairs.now) c.args.collected.now c.args.collected_values.now (count_of c.args.pairs.now 6) c.args.rows.now c.args.bases.now c.args.entries.now c.args.values.now c.args.ends.now c.args.room c.requires.listed c.requires.parted c.loop-i.invariant (omega (arith, c.count_of-objects.ensures.defined, c.loop-i-test.true)) c.index-end.result c.index-end.ensures.defined.0 c.requires.inside.0 c.requires.inside.1 c.object_lists.result c.object_lists.new.rows c.object_lists.new.bases c.object_lists.new.segment c.object_lists.new.values c.object_lists.ensures.laid c.in_ok-n.was c.object_lists.auto.segment c.object_lists.auto.values refl refl refl refl

pub returns : goal.returns
returns c = record { laid = turns_all (book_of c.args.book.now c.args.pairs.now) (fit_of c.args.fit.now c.args.pairs.now) c.args.collected.now c.args.collected_values.now (count_of c.args.pairs.now 6) c.args.rows.now c.args.bases.now c.args.entries.now c.args.values.now c.args.ends.now c.args.room c.loop-i.invariant (omega (arith, c.count_of-objects.ensures.defined, c.loop-i-test.false)) }
