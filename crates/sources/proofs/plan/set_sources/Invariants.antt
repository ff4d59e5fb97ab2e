use Rattle.sources.proofs.plan.set_sources.Given as goal
use Prim.Native.Nat.{◌≤◌}
use mathlib.Core.Path.{◌≡◌}
use mathlib.Core.List.{List}
use lib.ListN.{length}
use Rattle.rules.specs.Dispatch.{Row}
use Rattle.sources.specs.Rows.{DispatchedRows}
use Rattle.sources.proofs.Setting.{Upto}

abbrev pub invariant-loop-k : goal.invariant-loop-k
invariant-loop-k l = ((l.k ≤ l.n) × ((l.n ≤ length l.initial.rows) × (length l.rows ≡ length l.initial.rows))) × ((rs : List Row) → DispatchedRows rs l.n l.initial.rows l.entries l.values → Upto l.states rs l.n l.initial.rows l.entries l.values l.k l.rows l.first)
