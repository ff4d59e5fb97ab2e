use Rattle.given.proofs.idle.idles_have_strength.Given as goal
use Prim.Native.Nat.{◌≤◌}
use Rattle.memory.specs.Steps.{row_at}
use Rattle.memory.specs.Holding.{tables_of}
use Rattle.given.specs.Judging.{Judged}
use Rattle.given.proofs.Idling.{Left}

abbrev pub invariant-loop-k : goal.invariant-loop-k
invariant-loop-k l = (l.k ≤ l.count) × ((h : Judged (tables_of l.columns) l.values) → Left h l.row (row_at h.world l.row) l.k)
