-- `csv_text::put_records` meets its contract: what stands in front is the text so far. The measure is how many rows are left.
use Rattle.csv_text.proofs.put_records.Goals as goal
use native.Mathlib.Omega.{arith}
use mathlib.Core.Path.{refl, sym, ◌∙◌}
use Rattle.csv_text.proofs.Filling.{header-laid, row_more, row-full, all_laid, no_header}

pub returns-then-text-lt-HEADER_BYTES : goal.returns-then-text-lt-HEADER_BYTES
returns-then-text-lt-HEADER_BYTES c = record { the_records = λ d s. no_header _ _ c.if-text-lt-HEADER_BYTES.true d }

pub loop-next-init : goal.loop-next-init
loop-next-init c = (header-laid _ _ _ _ c.args.text.now (omega (arith, c.put_text-end.ensures.next, c.if-text-lt-HEADER_BYTES.false)) c.put_text-end.auto.out c.put_text-end.ensures.added, refl)

pub slice_bounds-put_row-end : goal.slice_bounds-put_row-end
slice_bounds-put_row-end c = c.loop-next.invariant.1

pub put_row-requires : goal.put_row-requires
put_row-requires c = record {
  inside = c.loop-next.invariant.0.inside;
  line = omega (arith, c.loop-next.invariant.1);
  good = c.requires.good;
}

pub returns-in_err-end : goal.returns-in_err-end
returns-in_err-end c = rw c.from_residual.ensures (record { the_records = λ d s. row-full _ _ _ _ c.loop-next.invariant.0 _ c.loop-next-test.true c.put_row.result c.put_row.new.text c.put_row.auto.text c.put_row.ensures.added (c.in_err-end.was) d s })

pub loop-next-preserved : goal.loop-next-preserved
loop-next-preserved c = (row_more _ _ _ _ c.loop-next.invariant.0 _ c.loop-next-test.true c.put_row.result c.put_row.new.text c.put_row.auto.text c.put_row.ensures.added c.in_ok-end.was, c.loop-next.invariant.1 ∙ sym c.put_row.auto.line)

pub returns : goal.returns
returns c = record { the_records = λ d s. all_laid _ _ _ _ c.loop-next.invariant.0 c.loop-next-test.false d s }
