-- `csv_text::export_text` meets its contract: zeros behind what was put.
use Rattle.csv_text.proofs.export_text.Goals as goal
use Rattle.std.proofs.Common.{ℕ, length, ◌∙◌, ap}
use Rattle.laws.specs.Columns.{column}
use Rattle.clear.specs.Ends.{cleared}
use Rattle.csv_text.specs.Labels.{export_of, text_of}
use Rattle.csv_text.proofs.Given.{ended}

pub returns : goal.returns
returns c = record {
  defined = λ o T.
      let p = c.put_export-made.ensures.defined o T in
      let x = export_of o c.args.labels.now c.args.label_bytes.now (length c.args.text.now) in (
        p.0,
        c.zero_from.ensures.cleared ∙ ap (λ (k : ℕ). cleared 0 k c.put_export-made.new.text) c.unwrap_or.ensures
            ∙ ended c.put_export-made.result c.put_export-made.new.text x p ∙ ap (column (λ b. b) 0 (text_of x)) c.put_export-made.auto.text,
      );
  refused = c.put_export-made.ensures.refused;
}
