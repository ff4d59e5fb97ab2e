-- `exports::export_text` meets its contract: the labels' lines are read, or the first bad one is said. Assumes nothing.
use Rattle.exports.proofs.export_text.Goals as goal
use native.Mathlib.Omega.{arith}
use mathlib.Core.Path.{refl, sym, ap, ◌∙◌}
use lib.ListN.{length}
use lib.Seq.{length-take-le}
use Rattle.said.specs.Said.{refusal}
use Rattle.lines.proofs.Readings.{bad_small, rows_small, told_bad, told_rows}
use Rattle.exports.proofs.Saying.{says-lines}

pub overflow_cast-line : goal.overflow_cast-line
overflow_cast-line c = record { fits = omega (arith, bad_small (length c.label_rows.new.out) c.in-Err.is c.label_rows.ensures.within, c.label_rows.auto.out) }

pub slice_bounds-rows-end : goal.slice_bounds-rows-end
slice_bounds-rows-end c = omega (arith, rows_small (length c.label_rows.new.out) c.in-Ok.is c.label_rows.ensures.within, c.label_rows.auto.out)

pub slice_bounds-said_export-end : goal.slice_bounds-said_export-end
slice_bounds-said_export-end c = sym (length-take-le _ c.label_rows.new.out (rows_small (length c.label_rows.new.out) c.in-Ok.is c.label_rows.ensures.within))

pub said_export-requires : goal.said_export-requires
said_export-requires c = record { few = omega (arith, length-take-le _ c.label_rows.new.out (rows_small (length c.label_rows.new.out) c.in-Ok.is c.label_rows.ensures.within), rows_small (length c.label_rows.new.out) c.in-Ok.is c.label_rows.ensures.within, c.label_rows.auto.out) }

pub returns-in-Err : goal.returns-in-Err
returns-in-Err c = record {
  says = says-lines (length c.args.text.now) c.args.sheet.now c.args.labels.now (told_bad c.label_rows.new.out c.in-Err.is c.label_rows.ensures.defined) (ap refusal c.bad_line.ensures.the_line.first);
  inside = c.bad_line.ensures.the_line.inside;
}

pub returns-in-Ok : goal.returns-in-Ok
returns-in-Ok c = record {
  says = c.said_export.ensures.says ∙ says-lines (length c.args.text.now) c.args.sheet.now c.args.labels.now (told_rows c.label_rows.new.out c.in-Ok.is c.label_rows.ensures.defined) refl;
  inside = c.said_export.ensures.inside;
}
