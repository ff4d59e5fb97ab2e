-- `csv_text::put_row` meets its contract: the record is laid out in the line, and then put where it fits. Assumes nothing.
use Rattle.csv_text.proofs.put_row.Goals as goal
use native.Mathlib.Omega.{arith}
use mathlib.Core.Path.{sym, ap, ◌∙◌}
use lib.ListN.{get_or}
use lib.Seq.{length-take-le}
use mir.Syntax.{w32}
use mir.Val.{to_z}
use Rattle.listing.proofs.Lined.{begun}
use Rattle.csv_text.specs.Labels.{labels_of}
use Rattle.csv_text.proofs.Given.{row_as, added_as}

pub label_at-label-requires : goal.label_at-label-requires
label_at-label-requires c = record { good = c.requires.good }

pub slice_bounds-put_fitting-end-2 : goal.slice_bounds-put_fitting-end-2
slice_bounds-put_fitting-end-2 c = sym (length-take-le c.put_record-long.result c.put_record-long.new.out (omega (arith, c.put_record-long.ensures.within, c.put_record-long.auto.out, c.requires.line)))

pub returns : goal.returns
returns c = record { added = added_as c.put_fitting.result c.args.text.now c.put_fitting.new.text c.args.at ((begun _ c.args.line.now (omega (arith, c.put_record-long.ensures.within, c.requires.line)) c.put_record-long.ensures.added).first ∙ row_as (labels_of c.args.label_bytes.now c.args.labels.now) (get_or c.args.row 0 0) c.args.value (ap (to_z w32) c.signed-id.ensures.and_back) (c.label_at-label.ensures.the_label)) c.put_fitting.ensures.added }
