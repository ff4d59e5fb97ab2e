use Rattle.hits.proofs.reach.skill_table.Given as goal
use Rattle.rules.specs.Sheet.{fit_of}
use Rattle.hits.specs.Reach.{required_bits}
use Rattle.hits.proofs.Telling.{Telling}

abbrev pub invariant-loop-i : goal.invariant-loop-i
invariant-loop-i l = Telling (required_bits (fit_of l.fit l.pairs)) (fit_of l.fit l.pairs) l.objects l.initial.rows l.rows l.i
