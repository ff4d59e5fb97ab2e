-- `compared::check_text` meets its contract: the listing's lines are read, or the first bad one is said. Assumes nothing.
use Rattle.compared.proofs.check_text.Goals as goal
use native.Mathlib.Omega.{arith}
use mathlib.Core.Path.{sym, ap}
use lib.ListN.{length}
use lib.Seq.{length-take-le}
use Rattle.said.specs.Said.{answer, refusal}
use Rattle.lines.proofs.Readings.{bad_small, rows_small, told_bad, told_rows}
use Rattle.compared.proofs.Saying.{says-lines}

pub overflow_cast-line : goal.overflow_cast-line
overflow_cast-line c = record { fits = omega (arith, bad_small (length c.figure_rows.new.out) c.in-Err.is c.figure_rows.ensures.within, c.figure_rows.auto.out) }

pub slice_bounds-lines-end : goal.slice_bounds-lines-end
slice_bounds-lines-end c = omega (arith, rows_small (length c.figure_rows.new.out) c.in-Ok.is c.figure_rows.ensures.within, c.figure_rows.auto.out)

pub slice_bounds-verdict_line-end-in-Ok : goal.slice_bounds-verdict_line-end-in-Ok
slice_bounds-verdict_line-end-in-Ok c = sym (length-take-le _ c.figure_rows.new.out (rows_small (length c.figure_rows.new.out) c.in-Ok.is c.figure_rows.ensures.within))

pub returns-in-Err : goal.returns-in-Err
returns-in-Err c = record {
  says = says-lines c.args.sheet.now c.args.text.now (told_bad c.figure_rows.new.out c.in-Err.is c.figure_rows.ensures.defined) (ap refusal c.bad_line.ensures.the_line.first);
  inside = c.bad_line.ensures.the_line.inside;
}

pub returns-in-Ok : goal.returns-in-Ok
returns-in-Ok c = record {
  says = says-lines c.args.sheet.now c.args.text.now (told_rows c.figure_rows.new.out c.in-Ok.is c.figure_rows.ensures.defined) (ap answer c.verdict_line.ensures.the_line.first);
  inside = c.verdict_line.ensures.the_line.inside;
}
