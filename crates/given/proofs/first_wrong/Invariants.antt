use Rattle.given.proofs.first_wrong.Given as goal
use Prim.Native.Nat.{◌≤◌}
use mathlib.Core.Path.{◌≡◌}
use lib.ListN.{length}
use Rattle.memory.specs.Holding.{tables_of}
use Rattle.given.specs.Judging.{Judged}
use Rattle.given.proofs.Rights.{FirstLeft}

abbrev pub invariant-loop-i : goal.invariant-loop-i
invariant-loop-i l = ((l.i ≤ length l.columns.rows.now) × (l.values ≡ l.initial.values)) × ((h : Judged (tables_of l.columns) l.initial.values) → l.recording ≡ h.world.recording → FirstLeft h.world h.values l.i)
