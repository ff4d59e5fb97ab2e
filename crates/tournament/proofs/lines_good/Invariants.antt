use Rattle.tournament.proofs.lines_good.Given as goal
use Rattle.tournament.proofs.Judging.{Scanned}

abbrev pub invariant-loop-i : goal.invariant-loop-i
invariant-loop-i l = Scanned l.lines l.i
