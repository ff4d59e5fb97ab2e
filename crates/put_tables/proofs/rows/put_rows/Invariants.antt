use Prim.Native.Nat.{◌*◌}
use Rattle.tables.specs.Layout.{words}
use Rattle.tables.specs.Tables.{fields, row}
use Rattle.put_tables.proofs.Steps.{Laid}
use Rattle.put_tables.proofs.rows.put_rows.Given as goal

abbrev pub invariant-loop-numbers : goal.invariant-loop-numbers
invariant-loop-numbers g l = Laid (4 * g.row.N) (λ k. words (fields g.row.N (row l.rows k))) l.at l.initial.bytes l.place l.numbers-index l.bytes
