use Rattle.seats.proofs.shut.Given as goal
use Rattle.seats.proofs.Down.{Moving}

abbrev pub invariant-loop-j : goal.invariant-loop-j
invariant-loop-j l = Moving l.initial.u l.n l.i l.u l.j
