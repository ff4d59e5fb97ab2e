use Rattle.values.proofs.walk.asks.Given as goal
use native.Mathlib.Omega.{arith}
use Prim.Native.Nat.{◌+◌, ◌-◌, ◌≤◌, ◌<◌}
use mathlib.Core.Path.{◌≡◌, refl, sym, ap, ◌∙◌}
use lib.ListN.{length, get_or}
use mir.Facts.{to_z-of_z}
use borrow.Author.Rules.{sfits_of}
use Rattle.rules.specs.Sheet.{fit_of}
use Rattle.info.proofs.Elements.{asks_length}
use Rattle.memory.specs.Holding.{tables_of, Ready}
use Rattle.values.proofs.Startings.{Asking, asking_starts, asking_ready, asking_ends, asking_next, asking_refused, ask_few, depth_is}

abbrev pub invariant-loop-i : goal.invariant-loop-i
invariant-loop-i l = ((l.i ≤ l.n) × (length l.values ≡ length l.initial.values) × (length l.sources ≡ length l.initial.sources) × (length l.floats ≡ length l.initial.floats)) × ((h : Ready (tables_of l.columns) l.run l.initial.values l.initial.sources l.initial.floats 0) → Asking h.world h.sources₀ h.floats₀ l.depth (fit_of l.fit l.columns.pairs.now).asks h.mem l.i l.values l.sources l.floats l.used)
