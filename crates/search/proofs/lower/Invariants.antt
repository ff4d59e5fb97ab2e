use Rattle.search.proofs.lower.Given as goal
use Prim.Native.Nat.{◌-◌, ◌≤◌}
use native.Mathlib.Omega.{arith}
use mir.Syntax.{w32}
use mir.Val.{to_z}
use Rattle.search.proofs.Steps.{CountedBelow, lower_own, counts_start, counts-more, counts_end, told_less}

abbrev pub invariant-loop-k : goal.invariant-loop-k
invariant-loop-k l = (l.k ≤ l.end) × CountedBelow l.rows l.id l.k l.found
