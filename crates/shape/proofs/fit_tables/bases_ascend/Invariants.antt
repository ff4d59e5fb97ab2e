use Rattle.shape.proofs.fit_tables.bases_ascend.Given as goal
use Prim.Native.Nat.{◌-◌}
use borrow.Author.Tests.{not-true, not-false}
use mathlib.Core.Path.{refl, ap, ◌∙◌}
use mathlib.Core.Path.{sym}
use Rattle.laws.specs.Lists.{every?}
use Rattle.rules.specs.Sheet.{fit_of}
use Rattle.shape.specs.Ranges.{range_ascends}
use Rattle.shape.proofs.Scans.{each_start}
use Rattle.shape.proofs.FitScans.{range_same, range_held}
use Rattle.info.proofs.Elements.{objects_length, bases_length}
use Rattle.shape.proofs.Scans.{Each, scan_next, scan_failed, scan_done}

abbrev pub invariant-loop-i : goal.invariant-loop-i
invariant-loop-i l = Each (range_ascends (fit_of l.fit l.pairs)) (every? (range_ascends (fit_of l.fit l.pairs)) (fit_of l.fit l.pairs).objects) (fit_of l.fit l.pairs).objects l.n l.i
