-- `object_lists::object_entries` meets its contract.
use Rattle.rows.proofs.object_lists.object_entries.Goals as goal
use mathlib.Core.Path.{◌∙◌}
use Rattle.rules.specs.Sheet.{book_of, fit_of}
use Rattle.rules.specs.Item.{object}
use Rattle.rows.proofs.RowOf.{object-number, bases_ascend}
use Rattle.rows.proofs.Owned.{owned-fits, owned_spreading, owned-over, owned-from, owned-taken, owned_numbers, owned_entries}

pub set_firsts-requires : goal.set_firsts-requires
set_firsts-requires c = record { few = owned-fits (book_of c.args.book.now c.args.pairs.now) (fit_of c.args.fit.now c.args.pairs.now) (object (fit_of c.args.fit.now c.args.pairs.now) c.args.i) c.args.i c.args.segment.now c.args.collected.now (bases_ascend c.args.fit.now c.args.pairs.now c.requires.sound_fit c.args.i c.requires.an_object) c.requires.raised c.args.from c.requires.numbered.1 }

pub spread-requires : goal.spread-requires
spread-requires c = record {
  spreading = owned_spreading (book_of c.args.book.now c.args.pairs.now) (fit_of c.args.fit.now c.args.pairs.now) (object (fit_of c.args.fit.now c.args.pairs.now) c.args.i) c.args.i c.args.segment.now c.args.collected.now (bases_ascend c.args.fit.now c.args.pairs.now c.requires.sound_fit c.args.i c.requires.an_object) c.requires.raised c.args.from c.requires.numbered.1 c.set_firsts.ensures.defined;
  numbered = c.requires.numbered.0;
}

pub write_entries-requires : goal.write_entries-requires
write_entries-requires c = record {
  sound_book = c.requires.sound_book;
  held_fit = c.requires.sound_fit.held;
  an_object = c.requires.an_object;
  listed = c.requires.listed;
  even = c.spread.auto.segment ∙ c.requires.even;
  placed = owned-taken (book_of c.args.book.now c.args.pairs.now) (fit_of c.args.fit.now c.args.pairs.now) (object (fit_of c.args.fit.now c.args.pairs.now) c.args.i) c.args.i c.args.segment.now c.args.collected.now c.requires.numbered.0 c.spread.new.segment (owned-over (book_of c.args.book.now c.args.pairs.now) (fit_of c.args.fit.now c.args.pairs.now) (object (fit_of c.args.fit.now c.args.pairs.now) c.args.i) c.args.i c.args.segment.now c.args.collected.now (bases_ascend c.args.fit.now c.args.pairs.now c.requires.sound_fit c.args.i c.requires.an_object) c.requires.raised c.args.from c.requires.numbered.1 c.set_firsts.ensures.defined c.spread.new.segment c.spread.ensures.spread);
}

pub returns : goal.returns
returns c = record { laid = λ es E. (owned-from (book_of c.args.book.now c.args.pairs.now) (fit_of c.args.fit.now c.args.pairs.now) (object (fit_of c.args.fit.now c.args.pairs.now) c.args.i) c.args.i c.args.segment.now c.args.collected.now (bases_ascend c.args.fit.now c.args.pairs.now c.requires.sound_fit c.args.i c.requires.an_object) c.requires.raised c.args.from c.requires.numbered.1 c.set_firsts.ensures.defined c.spread.ensures.firsts ∙ owned_numbers (book_of c.args.book.now c.args.pairs.now) (fit_of c.args.fit.now c.args.pairs.now) (object (fit_of c.args.fit.now c.args.pairs.now) c.args.i) c.args.i c.args.segment.now c.args.collected.now c.requires.numbered.0 es E c.args.from (object-number c.args.fit.now c.args.pairs.now c.args.i c.requires.an_object), owned_entries (book_of c.args.book.now c.args.pairs.now) (fit_of c.args.fit.now c.args.pairs.now) (object (fit_of c.args.fit.now c.args.pairs.now) c.args.i) c.args.i c.args.segment.now c.args.collected.now c.requires.numbered.0 es E c.spread.new.segment (owned-over (book_of c.args.book.now c.args.pairs.now) (fit_of c.args.fit.now c.args.pairs.now) (object (fit_of c.args.fit.now c.args.pairs.now) c.args.i) c.args.i c.args.segment.now c.args.collected.now (bases_ascend c.args.fit.now c.args.pairs.now c.requires.sound_fit c.args.i c.requires.an_object) c.requires.raised c.args.from c.requires.numbered.1 c.set_firsts.ensures.defined c.spread.new.segment c.spread.ensures.spread) (c.write_entries.ensures.written es E)) }
