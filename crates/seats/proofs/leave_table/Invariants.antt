use Rattle.seats.proofs.leave_table.Given as goal
use lib.ListN.{take}
use Rattle.seats.specs.Seats.{in_order}
use Rattle.seats.proofs.Join.{Joining}

abbrev pub invariant-loop-i : goal.invariant-loop-i
invariant-loop-i l = Joining (in_order l.s (take l.n l.t)) l.initial.u l.u l.m l.last.start l.last.length l.i
