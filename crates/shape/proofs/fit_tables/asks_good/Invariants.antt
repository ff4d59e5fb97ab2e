use Rattle.shape.proofs.fit_tables.asks_good.Given as goal
use Prim.Native.Nat.{◌-◌}
use borrow.Author.Tests.{not-true, not-false}
use mathlib.Core.Path.{refl, sym, ◌∙◌}
use Rattle.info.proofs.Elements.{objects_length, asks_length}
use lib.Dec.{ltb}
use lib.ListN.{length}
use Rattle.rules.specs.Sheet.{fit_of}
use Rattle.rules.specs.Shape.{asks_good}
use Rattle.shape.proofs.FitScans.{asks_start, ask_same}
use Rattle.shape.proofs.Scans.{Each, scan_next, scan_failed, scan_done}

abbrev pub invariant-loop-i : goal.invariant-loop-i
invariant-loop-i l = Each (λ a. ltb a.object (length (fit_of l.fit l.pairs).objects)) (asks_good (fit_of l.fit l.pairs)) (fit_of l.fit l.pairs).asks l.n l.i
