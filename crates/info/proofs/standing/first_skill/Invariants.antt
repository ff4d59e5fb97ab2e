use Rattle.info.proofs.standing.first_skill.Given as goal
use Rattle.rules.specs.Sheet.{fit_of}
use Rattle.info.proofs.Sheets.{Seen}

abbrev pub invariant-loop-i : goal.invariant-loop-i
invariant-loop-i l = Seen (fit_of l.fit l.pairs) l.from l.objects l.i
