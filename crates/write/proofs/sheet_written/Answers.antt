-- `sheet_written` meets its contract. Assumes nothing.
use Rattle.std.proofs.Common.{◌≡◌, ◌≤◌, [], length, refl, sym, ◌∙◌, arith}
use Rattle.std.proofs.Math.Option.{none}
use Rattle.std.proofs.lemmas.Result.{err_from_is_err_and}
use Rattle.shape.proofs.Shapes.{sound_said}
use Rattle.tables.specs.At.{book_in, fit_in}
use Rattle.tables.specs.Tables.{Tables, together, tables_bad, sheet_of, written}
use Rattle.write.proofs.Allowed.{sheet_book_ready, sheet_fit_ready, sheet_fits, sheet_small, sheet_lacks}
use Rattle.write.proofs.Answers.{judged_shape, judged-full, judged_sheet}
use Rattle.write.proofs.sheet_written.Goals as goal

pub returns-in_err-sheet_shape : goal.returns-in_err-sheet_shape
unfolding written
returns-in_err-sheet_shape c =
    let t : Tables = together c.args.header.now (book_in c.args.book []) (fit_in c.args.fit []) in
    let p = err_from_is_err_and c.from_residual.result c.from_residual.ensures.1 in
    record { defined = rw (p.1, p.2) (judged_shape (tables_bad t) (sheet_of t) (length c.args.bytes.now) c.sheet_shape.ensures.defined c.in_err-sheet_shape.was) }

pub length-requires : goal.length-requires
length-requires c =
    let t : Tables = together c.args.header.now (book_in c.args.book []) (fit_in c.args.fit []) in
    let good : tables_bad t ≡ none = sound_said (tables_bad t) (sym c.in_ok-sheet_shape.was ∙ c.sheet_shape.ensures.defined) in
    record { few = (sheet_book_ready c.args.header.now (book_in c.args.book []) (fit_in c.args.fit []) good).few }

pub length-requires-2 : goal.length-requires-2
length-requires-2 c =
    let t : Tables = together c.args.header.now (book_in c.args.book []) (fit_in c.args.fit []) in
    let good : tables_bad t ≡ none = sound_said (tables_bad t) (sym c.in_ok-sheet_shape.was ∙ c.sheet_shape.ensures.defined) in
    record { few = (sheet_fit_ready c.args.header.now (book_in c.args.book []) (fit_in c.args.fit []) good).few }

pub overflow_add-room : goal.overflow_add-room
overflow_add-room c =
    let t : Tables = together c.args.header.now (book_in c.args.book []) (fit_in c.args.fit []) in
    let good : tables_bad t ≡ none = sound_said (tables_bad t) (sym c.in_ok-sheet_shape.was ∙ c.sheet_shape.ensures.defined) in
    record { fits = omega (arith, sheet_small c.args.header.now (book_in c.args.book []) (fit_in c.args.fit []) good c.length.ensures.defined refl) }

pub overflow_add-room-2 : goal.overflow_add-room-2
overflow_add-room-2 c =
    let t : Tables = together c.args.header.now (book_in c.args.book []) (fit_in c.args.fit []) in
    let good : tables_bad t ≡ none = sound_said (tables_bad t) (sym c.in_ok-sheet_shape.was ∙ c.sheet_shape.ensures.defined) in
    record { fits = omega (arith, sheet_small c.args.header.now (book_in c.args.book []) (fit_in c.args.fit []) good c.length.ensures.defined c.length-2.ensures.defined) }

pub returns-then-bytes-room : goal.returns-then-bytes-room
unfolding written
returns-then-bytes-room c =
    let t : Tables = together c.args.header.now (book_in c.args.book []) (fit_in c.args.fit []) in
    let good : tables_bad t ≡ none = sound_said (tables_bad t) (sym c.in_ok-sheet_shape.was ∙ c.sheet_shape.ensures.defined) in
    record { defined = judged-full (tables_bad t) (sheet_of t) (length c.args.bytes.now) good (sheet_lacks c.args.header.now (book_in c.args.book []) (fit_in c.args.fit []) good c.length.ensures.defined c.length-2.ensures.defined c.if-bytes-room.true) }

pub put_sheet-requires : goal.put_sheet-requires
put_sheet-requires c =
    let t : Tables = together c.args.header.now (book_in c.args.book []) (fit_in c.args.fit []) in
    let good : tables_bad t ≡ none = sound_said (tables_bad t) (sym c.in_ok-sheet_shape.was ∙ c.sheet_shape.ensures.defined) in
    record {
      book_ready = sheet_book_ready c.args.header.now (book_in c.args.book []) (fit_in c.args.fit []) good;
      fit_ready = sheet_fit_ready c.args.header.now (book_in c.args.book []) (fit_in c.args.fit []) good;
      room = sheet_fits c.args.header.now (book_in c.args.book []) (fit_in c.args.fit []) good c.length.ensures.defined c.length-2.ensures.defined c.if-bytes-room.false;
    }

pub returns : goal.returns
unfolding written
returns c =
    let t : Tables = together c.args.header.now (book_in c.args.book []) (fit_in c.args.fit []) in
    let good : tables_bad t ≡ none = sound_said (tables_bad t) (sym c.in_ok-sheet_shape.was ∙ c.sheet_shape.ensures.defined) in
    let fits : length (sheet_of t) ≤ length c.args.bytes.now = sheet_fits c.args.header.now (book_in c.args.book []) (fit_in c.args.fit []) good c.length.ensures.defined c.length-2.ensures.defined c.if-bytes-room.false in
    record { defined = (sheet_of t, judged_sheet (tables_bad t) (sheet_of t) (length c.args.bytes.now) good fits, fits, c.put_sheet.ensures.written) }
