use Rattle.seats.proofs.freed_count.Given as goal
use lib.ListN.{take}
use Rattle.seats.specs.Tiling.{end_of}
use Rattle.seats.specs.Seats.{in_order}
use Rattle.seats.proofs.Join.{Counting}

abbrev pub invariant-loop-i : goal.invariant-loop-i
invariant-loop-i l = Counting (in_order l.s (take l.n l.t)) l.m (end_of l.last) l.i
