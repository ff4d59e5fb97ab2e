use Rattle.seats.proofs.all_clear.Given as goal
use Rattle.seats.specs.Tests.{clear_of}
use Rattle.seats.proofs.Loops.{Left}

abbrev pub invariant-loop-i : goal.invariant-loop-i
invariant-loop-i l = Left clear_of l.all 0 l.i
