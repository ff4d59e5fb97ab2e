-- `put_book_file` meets its contract. Assumes nothing.
use Rattle.tables.specs.At.{book_in}
use Rattle.std.proofs.Common.{arith, sym, ap}
use Rattle.listing.specs.Put.{put}
use Rattle.listing.proofs.Puts.{renamed}
use Rattle.tables.specs.Layout.{words}
use Rattle.tables.specs.Tables.{Tables}
use Rattle.tables.proofs.ReadsBack.{fields-all}
use Rattle.put_tables.proofs.Whole.{three_put, book_file_is, book_room}
use Rattle.put_tables.proofs.put_book_file.Goals as goal

pub put_words-behind-requires : goal.put_words-behind-requires
put_words-behind-requires c = record { room = omega (arith, book_room (book_in c.args.book c.args.header.now) c.requires.room) }

pub put_words-body-requires : goal.put_words-body-requires
put_words-body-requires c = record { room = omega (arith, book_room (book_in c.args.book c.args.header.now) c.requires.room) }

pub put_book-requires : goal.put_book-requires
put_book-requires c = record {
  ready = c.requires.ready;
  room = omega (arith, book_room (book_in c.args.book c.args.header.now) c.requires.room);
}

pub returns : goal.returns
returns c =
    let t : Tables = book_in c.args.book c.args.header.now in
    record {
      written =
          renamed (put 0 c.args.bytes.now) (book_file_is t c.args.header.now (sym (fields-all c.args.header.now 3 (omega arith))))
          (three_put _ _ _ (put 0 c.args.bytes.now) (renamed (put 0 c.args.bytes.now) (ap words c.book_pairs-pairs.ensures.defined) c.put_words-behind.ensures.written) c.put_words-body.ensures.written c.put_book.ensures.written);
    }
