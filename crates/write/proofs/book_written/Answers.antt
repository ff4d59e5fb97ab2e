-- `book_written` meets its contract. Assumes nothing.
use Rattle.std.proofs.Common.{◌≡◌, ◌≤◌, length, ap, sym, ◌∙◌, arith}
use Rattle.std.proofs.Math.Option.{none}
use Rattle.std.proofs.lemmas.Result.{err_from_is_err_and}
use Rattle.shape.specs.Shaped.{shaped_of}
use Rattle.shape.proofs.Shapes.{sound_said}
use Rattle.tables.specs.At.{book_in}
use Rattle.tables.specs.Tables.{Tables, book_tables_bad, book_file_of, written_book}
use Rattle.write.proofs.Allowed.{unheaded, book_file_ready, book_fits_lem, book_small, book_lacks}
use Rattle.write.proofs.Answers.{judged_shape, judged-full, judged_sheet}
use Rattle.write.proofs.book_written.Goals as goal

pub returns-in_err-book_shape : goal.returns-in_err-book_shape
unfolding written_book
returns-in_err-book_shape c =
    let t : Tables = book_in c.args.book c.args.header.now in
    let p = err_from_is_err_and c.from_residual.result c.from_residual.ensures.1 in
    record { defined = rw (p.1, p.2) (judged_shape (book_tables_bad t) (book_file_of t) (length c.args.bytes.now) (c.book_shape.ensures.defined ∙ ap shaped_of (unheaded c.args.book c.args.header.now)) c.in_err-book_shape.was) }

pub length-room-requires : goal.length-room-requires
length-room-requires c =
    let t : Tables = book_in c.args.book c.args.header.now in
    let good : book_tables_bad t ≡ none = sound_said (book_tables_bad t) (sym c.in_ok-book_shape.was ∙ (c.book_shape.ensures.defined ∙ ap shaped_of (unheaded c.args.book c.args.header.now))) in
    record { few = (book_file_ready c.args.book c.args.header.now good).few }

pub overflow_add-room : goal.overflow_add-room
overflow_add-room c =
    let t : Tables = book_in c.args.book c.args.header.now in
    let good : book_tables_bad t ≡ none = sound_said (book_tables_bad t) (sym c.in_ok-book_shape.was ∙ (c.book_shape.ensures.defined ∙ ap shaped_of (unheaded c.args.book c.args.header.now))) in
    record { fits = omega (arith, book_small c.args.book c.args.header.now good c.length-room.ensures.defined) }

pub returns-then-bytes-room : goal.returns-then-bytes-room
unfolding written_book
returns-then-bytes-room c =
    let t : Tables = book_in c.args.book c.args.header.now in
    let good : book_tables_bad t ≡ none = sound_said (book_tables_bad t) (sym c.in_ok-book_shape.was ∙ (c.book_shape.ensures.defined ∙ ap shaped_of (unheaded c.args.book c.args.header.now))) in
    record { defined = judged-full (book_tables_bad t) (book_file_of t) (length c.args.bytes.now) good (book_lacks c.args.book c.args.header.now good c.length-room.ensures.defined c.if-bytes-room.true) }

pub put_book_file-requires : goal.put_book_file-requires
put_book_file-requires c =
    let t : Tables = book_in c.args.book c.args.header.now in
    let good : book_tables_bad t ≡ none = sound_said (book_tables_bad t) (sym c.in_ok-book_shape.was ∙ (c.book_shape.ensures.defined ∙ ap shaped_of (unheaded c.args.book c.args.header.now))) in
    record {
      ready = book_file_ready c.args.book c.args.header.now good;
      room = book_fits_lem c.args.book c.args.header.now good c.length-room.ensures.defined c.if-bytes-room.false;
    }

pub returns : goal.returns
unfolding written_book
returns c =
    let t : Tables = book_in c.args.book c.args.header.now in
    let good : book_tables_bad t ≡ none = sound_said (book_tables_bad t) (sym c.in_ok-book_shape.was ∙ (c.book_shape.ensures.defined ∙ ap shaped_of (unheaded c.args.book c.args.header.now))) in
    let fits : length (book_file_of t) ≤ length c.args.bytes.now = book_fits_lem c.args.book c.args.header.now good c.length-room.ensures.defined c.if-bytes-room.false in
    record { defined = (book_file_of t, judged_sheet (book_tables_bad t) (book_file_of t) (length c.args.bytes.now) good fits, fits, c.put_book_file.ensures.written) }
