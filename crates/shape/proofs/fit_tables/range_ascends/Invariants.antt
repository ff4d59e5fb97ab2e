use Rattle.shape.proofs.fit_tables.range_ascends.Given as goal
use Prim.Native.Nat.{◌-◌}
use borrow.Author.Tests.{not-true, not-false}
use borrow.Author.Rules.{sfits_of}
use mathlib.Core.Path.{sym, ◌∙◌}
use Rattle.laws.proofs.Bools.{and_true_right}
use Rattle.rules.specs.Sheet.{fit_of}
use Rattle.info.proofs.Elements.{bases_length}
use mir.Syntax.{w32}
use mir.Val.{to_z}
use mir.ValLaws.{to_z-of_z}
use Rattle.shape.proofs.Scans.{scan_next, scan_failed, scan_done}
use Rattle.shape.proofs.FitScans.{RangeScan, range_start, range_nth}

abbrev pub invariant-loop-i : goal.invariant-loop-i
invariant-loop-i l = RangeScan (fit_of l.fit l.pairs) l.first l.n l.i l.last
