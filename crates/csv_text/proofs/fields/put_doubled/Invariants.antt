use Rattle.csv_text.proofs.fields.put_doubled.Given as goal
use Rattle.csv_text.proofs.Special.{Doubled}

abbrev pub invariant-loop-b : goal.invariant-loop-b
invariant-loop-b l = Doubled l.text l.at l.initial.out l.b-index l.end l.out
