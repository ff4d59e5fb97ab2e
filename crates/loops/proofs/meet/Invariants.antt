use Rattle.loops.proofs.meet.Given as goal
use Prim.Native.Nat.{◌≤◌, ◌+◌}
use mathlib.Core.Path.{◌≡◌}
use lib.ListN.{length}
use Rattle.needs.specs.Telling.{tables_of}
use Rattle.loops.specs.Looping.{Spreading}

abbrev pub invariant-loop-s : goal.invariant-loop-s
invariant-loop-s l = (l.s ≤ l.slots) × ((length l.work ≡ length l.initial.work) × Spreading (tables_of l.columns) l.row l.at l.s (l.head + 1) l.last l.work)
