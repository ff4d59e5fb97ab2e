use Rattle.figures.proofs.rows_figured.Given as goal
use lib.ListN.{length}
use Rattle.figures.proofs.Figured.{Figured}

abbrev pub invariant-loop-next : goal.invariant-loop-next
invariant-loop-next l = Figured l.n l.rows l.values (length l.initial.out) l.out l.end l.next
