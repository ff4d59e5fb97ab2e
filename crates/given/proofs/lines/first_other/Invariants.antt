use Rattle.given.proofs.lines.first_other.Given as goal
use Prim.Native.Nat.{◌≤◌}
use mathlib.Core.List.{List}
use lib.ListN.{length}
use Rattle.rules.specs.Dispatch.{Row}
use Rattle.reading.specs.Held.{RowsHeld}
use Rattle.given.proofs.Lining.{OtherLeft}

abbrev pub invariant-loop-i : goal.invariant-loop-i
invariant-loop-i l = (l.i ≤ length l.rows) × ((rs : List Row) (H : RowsHeld rs l.rows) → OtherLeft H l.listing l.i)
