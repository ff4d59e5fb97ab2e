use Rattle.lines.proofs.fields.digits.Given as goal
use Rattle.lines.proofs.Going.{Going}

abbrev pub invariant-loop-i : goal.invariant-loop-i
invariant-loop-i l = Going l.base l.most l.at l.text l.end l.value l.i
