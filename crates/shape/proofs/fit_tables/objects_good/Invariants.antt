use Rattle.shape.proofs.fit_tables.objects_good.Given as goal
use Prim.Native.Nat.{◌-◌}
use borrow.Author.Tests.{not-true, not-false}
use mathlib.Core.Path.{refl, sym, ◌∙◌}
use Rattle.rules.specs.Sheet.{fit_of}
use Rattle.shape.proofs.Scans.{scan_next, scan_failed, scan_done, and_same}
use Rattle.shape.proofs.FitScans.{ObjectScan, objects_start}
use Rattle.info.proofs.Elements.{objects_length, bases_length, ids_length}

abbrev pub invariant-loop-i : goal.invariant-loop-i
invariant-loop-i l = ObjectScan (fit_of l.fit l.pairs) l.n l.i l.last
