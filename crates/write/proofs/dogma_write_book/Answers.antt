-- `dogma_write_book` meets its contract. Assumes nothing.
use Rattle.std.proofs.Common.{◌≡◌, length, arith}
use Rattle.tables.specs.At.{book_now}
use Rattle.tables.specs.Tables.{written_book}
use Rattle.write.proofs.Answers.{gives}
use Rattle.write.proofs.dogma_write_book.Goals as goal

pub returns : goal.returns
returns c =
    let long : length c.book_written-end.new.bytes ≡ length c.args.bytes.now = omega arith in
    record { the_book = gives (written_book (book_now c.args.attributes c.args.defaults c.args.effects c.args.modifiers c.args.type_effects c.args.buff_collections c.args.header.now) (length c.args.bytes.now)) c.book_written-end.result c.args.bytes.now c.book_written-end.new.bytes c.book_written-end.ensures.defined long c.answered.ensures.answer c.answered.ensures.cleared }
