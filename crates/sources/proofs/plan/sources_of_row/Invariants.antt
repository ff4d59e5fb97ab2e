use Rattle.sources.proofs.plan.sources_of_row.Given as goal
use Prim.Native.Nat.{◌+◌, ◌*◌, ◌≤◌}
use mathlib.Core.Path.{◌≡◌}
use mathlib.Core.List.{List}
use lib.ListN.{length}
use Rattle.rules.specs.declared.Effect.{Effect}
use Rattle.sources.specs.Ranged.{EntriesHeld, planned_in}

abbrev pub invariant-loop-i : goal.invariant-loop-i
invariant-loop-i l = ((l.i ≤ l.count) × (l.total ≤ l.i * 9)) × ((es : List Effect) → EntriesHeld es l.entries l.values → l.first + l.count ≤ length es → l.total ≡ planned_in l.states es l.first l.i)
