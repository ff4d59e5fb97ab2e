-- `put_sheet` meets its contract. Assumes nothing.
use Rattle.tables.specs.At.{book_in, fit_in}
use Rattle.std.proofs.Common.{[], ◌+◌, arith, ap}
use Rattle.listing.specs.Put.{put}
use Rattle.listing.proofs.Puts.{renamed}
use Rattle.tables.specs.Layout.{words}
use Rattle.put_tables.proofs.Whole.{five_put, sheet_is, sheet_room}
use Rattle.put_tables.proofs.put_sheet.Goals as goal

pub put_words-behind_book-requires : goal.put_words-behind_book-requires
put_words-behind_book-requires c = record { room = omega (arith, sheet_room c.args.header.now (book_in c.args.book []) (fit_in c.args.fit []) c.requires.room) }

pub put_words-behind_fit-requires : goal.put_words-behind_fit-requires
put_words-behind_fit-requires c = record { room = omega (arith, sheet_room c.args.header.now (book_in c.args.book []) (fit_in c.args.fit []) c.requires.room) }

pub put_words-body-requires : goal.put_words-body-requires
put_words-body-requires c = record { room = omega (arith, sheet_room c.args.header.now (book_in c.args.book []) (fit_in c.args.fit []) c.requires.room) }

pub put_book-middle-requires : goal.put_book-middle-requires
put_book-middle-requires c = record {
  ready = c.requires.book_ready;
  room = omega (arith, sheet_room c.args.header.now (book_in c.args.book []) (fit_in c.args.fit []) c.requires.room);
}

pub put_fit-requires : goal.put_fit-requires
put_fit-requires c = record {
  ready = c.requires.fit_ready;
  room = omega (arith, sheet_room c.args.header.now (book_in c.args.book []) (fit_in c.args.fit []) c.requires.room);
}

pub returns : goal.returns
returns c = record {
  written =
      renamed (put 0 c.args.bytes.now)
      (sheet_is c.args.header.now (book_in c.args.book []) (fit_in c.args.fit []) (100 + c.length.result) (ap (λ n. 100 + n) c.length.ensures.defined) (omega arith))
      (five_put _ _ _ _ _ (put 0 c.args.bytes.now) (renamed (put 0 c.args.bytes.now) (ap words c.book_pairs-book_at.ensures.defined) c.put_words-behind_book.ensures.written) (renamed _ (ap words c.fit_pairs-fit_at.ensures.defined) c.put_words-behind_fit.ensures.written) c.put_words-body.ensures.written c.put_book-middle.ensures.written c.put_fit.ensures.written);
}
