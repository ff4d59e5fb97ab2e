use Rattle.csv_text.proofs.labels.all_allowed.Given as goal
use Rattle.csv_text.proofs.Judging.{Passed}

abbrev pub invariant-loop-b : goal.invariant-loop-b
invariant-loop-b l = Passed l.text l.b-index l.good
