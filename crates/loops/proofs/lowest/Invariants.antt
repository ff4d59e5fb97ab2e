use Rattle.loops.proofs.lowest.Given as goal
use Prim.Native.Nat.{◌-◌, ◌≤◌}
use mathlib.Core.Path.{◌≡◌}
use lib.ListN.{length}
use Rattle.laws.specs.Lists.{from}
use Rattle.needs.specs.Telling.{tables_of, KnowsNeeds}
use Rattle.loops.specs.Loop.{loop_among, loop_at}
use Rattle.loops.specs.Looping.{Earlier}

abbrev pub invariant-loop-i : goal.invariant-loop-i
invariant-loop-i l = (l.i ≤ l.n) × ((length l.work ≡ length l.initial.work) × (Earlier (length l.columns.rows.now) l.i l.work × ((h : KnowsNeeds (tables_of l.columns)) → loop_at h.world ≡ loop_among h.world (from l.i (l.n - l.i)))))
