-- `csv_text::put_export` meets its contract.
use Rattle.csv_text.proofs.put_export.Goals as goal
use Rattle.std.proofs.Common.{sym}
use Rattle.std.proofs.lemmas.Result.{err_from_is_err_and}
use Rattle.csv_text.proofs.Given.{put_engine, engine_refused, put_label, put_rows, full_refused}

pub returns-then-number-ne0 : goal.returns-then-number-ne0
returns-then-number-ne0 c = record { defined = λ o T. put_engine c.args.labels.now c.args.label_bytes.now _ c.args.text.now o T c.if-number-ne0.true; refused = λ o T. engine_refused c.args.labels.now c.args.label_bytes.now 0 c.args.text.now o T c.if-number-ne0.true }

pub returns-in_err-check_labels : goal.returns-in_err-check_labels
returns-in_err-check_labels c =
    let p = err_from_is_err_and c.from_residual.result c.from_residual.ensures.1 in
    rw (p.1, p.2) (record { defined = λ o T. put_label c.args.labels.now c.args.label_bytes.now _ c.args.text.now o T _ c.if-number-ne0.false c.in_err-check_labels.ensures.defined; refused = λ o T. tt })

pub returns : goal.returns
returns c = rw c.ok_or.ensures.value (record { defined = λ o T. put_rows c.args.labels.now c.args.label_bytes.now _ c.put_records.new.text o T c.if-number-ne0.false (sym c.in_ok-check_labels.ensures.defined) c.put_records.result c.put_records.auto.text c.put_records.ensures.the_records; refused = λ o T. full_refused c.put_records.result })
