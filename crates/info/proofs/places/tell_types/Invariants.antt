use Rattle.info.proofs.places.tell_types.Given as goal
use Prim.Native.Nat.{◌≤◌}
use Rattle.rules.specs.Bytes.{count_of}

abbrev pub invariant-loop-i : goal.invariant-loop-i
invariant-loop-i l = l.i ≤ count_of l.pairs 4

abbrev pub decreases-loop-i : goal.decreases-loop-i
decreases-loop-i l = l.i
