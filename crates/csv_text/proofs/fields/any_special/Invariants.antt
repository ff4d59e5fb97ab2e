use Rattle.csv_text.proofs.fields.any_special.Given as goal
use Rattle.csv_text.proofs.Special.{Plain}

abbrev pub invariant-loop-b : goal.invariant-loop-b
invariant-loop-b l = Plain l.text l.b-index l.found
