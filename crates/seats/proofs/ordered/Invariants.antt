use Rattle.seats.proofs.ordered.Given as goal
use lib.ListN.{take}
use Rattle.seats.specs.Seats.{apart}
use Rattle.seats.proofs.Loops.{Left}

abbrev pub invariant-loop-i : goal.invariant-loop-i
invariant-loop-i l = Left apart (take l.n l.t) 0 l.i
