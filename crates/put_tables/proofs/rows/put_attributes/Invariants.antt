use Rattle.tables.specs.Tables.{row, value, attribute_bytes}
use Rattle.put_tables.proofs.Steps.{Laid}
use Rattle.put_tables.proofs.rows.put_attributes.Given as goal

abbrev pub invariant-loop-k : goal.invariant-loop-k
invariant-loop-k l = Laid 24 (λ k. attribute_bytes (row l.attributes k) (value l.defaults k)) l.at l.initial.bytes l.place l.k l.bytes
