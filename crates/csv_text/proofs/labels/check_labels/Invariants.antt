use Rattle.csv_text.proofs.labels.check_labels.Given as goal
use Rattle.csv_text.proofs.Judging.{Scanned}

abbrev pub invariant-loop-i : goal.invariant-loop-i
invariant-loop-i l = Scanned l.bytes l.labels l.i
