use Rattle.tables.specs.Tables.{number, value, value_bytes}
use Rattle.put_tables.proofs.Steps.{Laid}
use Rattle.put_tables.proofs.rows.put_values.Given as goal

abbrev pub invariant-loop-k : goal.invariant-loop-k
invariant-loop-k l = Laid 12 (λ k. value_bytes (number l.ids k) (value l.values k)) l.at l.initial.bytes l.place l.k l.bytes
