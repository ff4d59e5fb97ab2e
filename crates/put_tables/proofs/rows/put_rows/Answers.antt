-- `rows::put_rows` meets its contract: after k rows the first k stand. Assumes nothing.
use Rattle.std.proofs.Common.{◌≡◌, ◌*◌, length, arith}
use Rattle.std.proofs.lemmas.List.{get_or_read}
use Rattle.tables.specs.Layout.{words}
use Rattle.tables.specs.Tables.{fields, row}
use Rattle.put_tables.proofs.Steps.{laid_none, laid_next, fields_wide, row_put}
use Rattle.put_tables.proofs.rows.put_rows.Goals as goal

pub loop-numbers-init : goal.loop-numbers-init
loop-numbers-init g c = laid_none (4 * g.row.N) (λ k. words (fields g.row.N (row c.args.rows.now k))) c.args.at c.args.bytes.now

pub loop-numbers-preserved : goal.loop-numbers-preserved
loop-numbers-preserved g c =
    let long : length c.numbers-item.result ≡ g.row.N = omega arith in
    let is : c.numbers-item.result ≡ row c.args.rows.now c.loop-numbers.numbers-index = get_or_read c.args.rows.now _ _ c.loop-numbers-test.true c.numbers-item.is _ in
    laid_next c.loop-numbers.invariant (fields_wide (row c.args.rows.now c.loop-numbers.numbers-index) g.row.N)
    (row_put g.row.N _ is long c.put_words-place.ensures.written)
