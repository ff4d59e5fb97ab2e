use Rattle.csv_text.proofs.put_records.Given as goal
use mathlib.Core.Path.{◌≡◌}
use lib.ListN.{length}
use Rattle.csv_text.specs.Labels.{labels_of}
use Rattle.csv_text.proofs.Filling.{Laid}

abbrev pub invariant-loop-next : goal.invariant-loop-next
invariant-loop-next l = Laid (labels_of l.label_bytes l.labels) l.n l.rows l.values (length l.initial.text) l.text l.end l.next × (172 ≡ length l.line)
