use Rattle.values.proofs.walk.walk.Given as goal
use native.Mathlib.Omega.{arith}
use Prim.Native.Nat.{◌+◌, ◌-◌, ◌≤◌, ◌<◌}
use mathlib.Core.Path.{◌≡◌, refl, sym, ap, ◌∙◌}
use lib.ListN.{length, get_or}
use mir.Facts.{to_z-of_z}
use borrow.Author.Rules.{sfits_of}
use Rattle.rules.specs.Sheet.{fit_of}
use mathlib.Core.List.{map}
use Rattle.rules.specs.Outcome.{walk_order}
use Rattle.memory.specs.Steps.{row_at}
use Rattle.memory.proofs.Fitting.{fits_below}
use Rattle.values.specs.Complete.{ask_of}
use Rattle.values.specs.Starting.{Walkable}
use Rattle.memory.specs.Holding.{tables_of}
use Rattle.values.proofs.Startings.{Asking, asking_starts, asking_ready, asking_ends, asking_next, asking_refused, walk_long, walk_at, depth_is}

abbrev pub invariant-loop-k : goal.invariant-loop-k
invariant-loop-k l = ((l.k ≤ l.n) × (length l.values ≡ length l.initial.values) × (length l.sources ≡ length l.initial.sources) × (length l.floats ≡ length l.initial.floats)) × ((h : Walkable (tables_of l.columns) l.run l.initial.values l.initial.sources l.initial.floats l.before l.fit) → Asking h.ready.world h.ready.sources₀ h.ready.floats₀ l.depth (map ask_of (walk_order (fit_of l.fit l.columns.pairs.now).objects h.ready.world.rows)) h.ready.mem l.k l.values l.sources l.floats l.used)
