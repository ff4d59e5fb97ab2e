use Rattle.loops.proofs.leads_back.Given as goal
use Prim.Native.Nat.{◌-◌}
use mathlib.Core.Path.{◌≡◌}
use lib.ListN.{length}
use Rattle.needs.specs.Telling.{tables_of}
use Rattle.loops.specs.Looping.{Spreading}

abbrev pub invariant-loop-head : goal.invariant-loop-head
invariant-loop-head l = (length l.work ≡ length l.initial.work) × Spreading (tables_of l.columns) l.row (length l.columns.rows.now) 0 l.head l.end l.work

abbrev pub decreases-loop-head : goal.decreases-loop-head
decreases-loop-head l = length l.work - l.head
