-- `fit_written` meets its contract. Assumes nothing.
use Rattle.std.proofs.Common.{◌≡◌, ◌≤◌, length, sym, ◌∙◌, arith}
use Rattle.std.proofs.Math.Option.{none}
use Rattle.std.proofs.lemmas.Result.{err_from_is_err_and}
use Rattle.shape.proofs.Shapes.{sound_said}
use Rattle.tables.specs.At.{fit_in}
use Rattle.tables.specs.Tables.{Tables, fit_tables_bad, fit_file_of, written_fit}
use Rattle.write.proofs.Allowed.{fit_file_ready, fit_fits_lem, fit_small, fit_lacks}
use Rattle.write.proofs.Answers.{judged_shape, judged-full, judged_sheet}
use Rattle.write.proofs.fit_written.Goals as goal

pub returns-in_err-fit_shape : goal.returns-in_err-fit_shape
unfolding written_fit
returns-in_err-fit_shape c =
    let t : Tables = fit_in c.args.fit c.args.header.now in
    let p = err_from_is_err_and c.from_residual.result c.from_residual.ensures.1 in
    record { defined = rw (p.1, p.2) (judged_shape (fit_tables_bad t) (fit_file_of t) (length c.args.bytes.now) c.fit_shape.ensures.defined c.in_err-fit_shape.was) }

pub length-room-requires : goal.length-room-requires
length-room-requires c =
    let t : Tables = fit_in c.args.fit c.args.header.now in
    let good : fit_tables_bad t ≡ none = sound_said (fit_tables_bad t) (sym c.in_ok-fit_shape.was ∙ c.fit_shape.ensures.defined) in
    record { few = (fit_file_ready c.args.fit c.args.header.now good).few }

pub overflow_add-room : goal.overflow_add-room
overflow_add-room c =
    let t : Tables = fit_in c.args.fit c.args.header.now in
    let good : fit_tables_bad t ≡ none = sound_said (fit_tables_bad t) (sym c.in_ok-fit_shape.was ∙ c.fit_shape.ensures.defined) in
    record { fits = omega (arith, fit_small c.args.fit c.args.header.now good c.length-room.ensures.defined) }

pub returns-then-bytes-room : goal.returns-then-bytes-room
unfolding written_fit
returns-then-bytes-room c =
    let t : Tables = fit_in c.args.fit c.args.header.now in
    let good : fit_tables_bad t ≡ none = sound_said (fit_tables_bad t) (sym c.in_ok-fit_shape.was ∙ c.fit_shape.ensures.defined) in
    record { defined = judged-full (fit_tables_bad t) (fit_file_of t) (length c.args.bytes.now) good (fit_lacks c.args.fit c.args.header.now good c.length-room.ensures.defined c.if-bytes-room.true) }

pub put_fit_file-requires : goal.put_fit_file-requires
put_fit_file-requires c =
    let t : Tables = fit_in c.args.fit c.args.header.now in
    let good : fit_tables_bad t ≡ none = sound_said (fit_tables_bad t) (sym c.in_ok-fit_shape.was ∙ c.fit_shape.ensures.defined) in
    record {
      ready = fit_file_ready c.args.fit c.args.header.now good;
      room = fit_fits_lem c.args.fit c.args.header.now good c.length-room.ensures.defined c.if-bytes-room.false;
    }

pub returns : goal.returns
unfolding written_fit
returns c =
    let t : Tables = fit_in c.args.fit c.args.header.now in
    let good : fit_tables_bad t ≡ none = sound_said (fit_tables_bad t) (sym c.in_ok-fit_shape.was ∙ c.fit_shape.ensures.defined) in
    let fits : length (fit_file_of t) ≤ length c.args.bytes.now = fit_fits_lem c.args.fit c.args.header.now good c.length-room.ensures.defined c.if-bytes-room.false in
    record { defined = (fit_file_of t, judged_sheet (fit_tables_bad t) (fit_file_of t) (length c.args.bytes.now) good fits, fits, c.put_fit_file.ensures.written) }
