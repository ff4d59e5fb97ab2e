use Rattle.seats.proofs.with_pilots.Given as goal
use Rattle.seats.specs.Seats.{seat_of}
use Rattle.seats.proofs.Gather.{Seating}

abbrev pub invariant-loop-p : goal.invariant-loop-p
invariant-loop-p l = Seating (seat_of l.stretches) l.initial.all l.all l.p
