-- `object_lists::object_lists` meets its contract.
use Rattle.rows.proofs.object_lists.object_lists.Goals as goal
use mathlib.Core.Path.{refl, ◌∙◌}
use mathlib.Core.List.{map}
use Rattle.rows.specs.Tallies.{hit_id, tallied}
use Rattle.rules.specs.Sheet.{book_of, fit_of}
use Rattle.rules.specs.Item.{object}
use Rattle.rows.proofs.RowOf.{bases_ascend}
use Rattle.rows.proofs.Owned.{owned-length, owned-full, owned-laid, owned-tallied, answered_rows, answered_inside, answered_part, answered_full}

pub returns-in_err-k : goal.returns-in_err-k
returns-in_err-k c = rw c.from_residual.ensures (record { laid = λ es E. owned-full (book_of c.args.book.now c.args.pairs.now) (fit_of c.args.fit.now c.args.pairs.now) (object (fit_of c.args.fit.now c.args.pairs.now) c.args.i) c.args.i c.args.segment.now c.args.collected.now c.requires.numbered.0 es E (bases_ascend c.args.fit.now c.args.pairs.now c.requires.sound_fit c.args.i c.requires.an_object) (answered_full c.object_rows.result c.args.i (tallied (book_of c.args.book.now c.args.pairs.now) (fit_of c.args.fit.now c.args.pairs.now) (object (fit_of c.args.fit.now c.args.pairs.now) c.args.i) (map (hit_id c.args.collected.now) c.args.segment.now)) c.args.rows.now c.object_rows.new.rows c.args.bases.now c.object_rows.new.bases c.object_rows.ensures.defined c.in_err-k.was) })

pub slice_bounds-object_entries-end : goal.slice_bounds-object_entries-end
slice_bounds-object_entries-end c = answered_inside c.object_rows.result c.args.i (tallied (book_of c.args.book.now c.args.pairs.now) (fit_of c.args.fit.now c.args.pairs.now) (object (fit_of c.args.fit.now c.args.pairs.now) c.args.i) (map (hit_id c.args.collected.now) c.args.segment.now)) c.args.rows.now c.object_rows.new.rows c.args.bases.now c.object_rows.new.bases c.object_rows.ensures.defined c.in_ok-k.was

pub slice_bounds-object_entries-end-2 : goal.slice_bounds-object_entries-end-2
slice_bounds-object_entries-end-2 c = answered_part c.object_rows.result c.args.i (tallied (book_of c.args.book.now c.args.pairs.now) (fit_of c.args.fit.now c.args.pairs.now) (object (fit_of c.args.fit.now c.args.pairs.now) c.args.i) (map (hit_id c.args.collected.now) c.args.segment.now)) c.args.rows.now c.object_rows.new.rows c.args.bases.now c.object_rows.new.bases c.object_rows.ensures.defined c.in_ok-k.was

pub object_entries-requires : goal.object_entries-requires
object_entries-requires c = record {
  sound_book = c.requires.sound_book;
  sound_fit = c.requires.sound_fit;
  an_object = c.requires.an_object;
  listed = c.requires.listed;
  even = c.requires.even.1;
  numbered = c.requires.numbered;
  raised = owned-tallied (answered_rows c.object_rows.result c.args.i (tallied (book_of c.args.book.now c.args.pairs.now) (fit_of c.args.fit.now c.args.pairs.now) (object (fit_of c.args.fit.now c.args.pairs.now) c.args.i) (map (hit_id c.args.collected.now) c.args.segment.now)) c.args.rows.now c.object_rows.new.rows c.args.bases.now c.object_rows.new.bases c.object_rows.ensures.defined c.in_ok-k.was).1 _ (answered_rows c.object_rows.result c.args.i (tallied (book_of c.args.book.now c.args.pairs.now) (fit_of c.args.fit.now c.args.pairs.now) (object (fit_of c.args.fit.now c.args.pairs.now) c.args.i) (map (hit_id c.args.collected.now) c.args.segment.now)) c.args.rows.now c.object_rows.new.rows c.args.bases.now c.object_rows.new.bases c.object_rows.ensures.defined c.in_ok-k.was).0;
}

pub returns : goal.returns
returns c = record { laid = λ es E. ((answered_rows c.object_rows.result c.args.i (tallied (book_of c.args.book.now c.args.pairs.now) (fit_of c.args.fit.now c.args.pairs.now) (object (fit_of c.args.fit.now c.args.pairs.now) c.args.i) (map (hit_id c.args.collected.now) c.args.segment.now)) c.args.rows.now c.object_rows.new.rows c.args.bases.now c.object_rows.new.bases c.object_rows.ensures.defined c.in_ok-k.was).0 ∙ owned-length (book_of c.args.book.now c.args.pairs.now) (fit_of c.args.fit.now c.args.pairs.now) (object (fit_of c.args.fit.now c.args.pairs.now) c.args.i) c.args.i c.args.segment.now c.args.collected.now c.requires.numbered.0 es E (bases_ascend c.args.fit.now c.args.pairs.now c.requires.sound_fit c.args.i c.requires.an_object), owned-laid (book_of c.args.book.now c.args.pairs.now) (fit_of c.args.fit.now c.args.pairs.now) (object (fit_of c.args.fit.now c.args.pairs.now) c.args.i) c.args.i c.args.segment.now c.args.collected.now c.requires.numbered.0 es E (bases_ascend c.args.fit.now c.args.pairs.now c.requires.sound_fit c.args.i c.requires.an_object) (answered_rows c.object_rows.result c.args.i (tallied (book_of c.args.book.now c.args.pairs.now) (fit_of c.args.fit.now c.args.pairs.now) (object (fit_of c.args.fit.now c.args.pairs.now) c.args.i) (map (hit_id c.args.collected.now) c.args.segment.now)) c.args.rows.now c.object_rows.new.rows c.args.bases.now c.object_rows.new.bases c.object_rows.ensures.defined c.in_ok-k.was).1 _ (answered_rows c.object_rows.result c.args.i (tallied (book_of c.args.book.now c.args.pairs.now) (fit_of c.args.fit.now c.args.pairs.now) (object (fit_of c.args.fit.now c.args.pairs.now) c.args.i) (map (hit_id c.args.collected.now) c.args.segment.now)) c.args.rows.now c.object_rows.new.rows c.args.bases.now c.object_rows.new.bases c.object_rows.ensures.defined c.in_ok-k.was).0 c.args.from (c.object_entries.ensures.laid es E).0 refl, (c.object_entries.ensures.laid es E).1) }
