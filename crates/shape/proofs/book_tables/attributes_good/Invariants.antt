use Rattle.shape.proofs.book_tables.attributes_good.Given as goal
use Prim.Native.Nat.{◌-◌}
use borrow.Author.Tests.{not-true, not-false}
use borrow.Author.Rules.{sfits_of}
use mir.Syntax.{w32}
use mir.Val.{to_z}
use mir.ValLaws.{to_z-of_z}
use Rattle.shape.proofs.Scans.{scan_next, scan_failed, scan_done}
use mathlib.Core.Path.{sym, ◌∙◌}
use Rattle.rules.specs.Sheet.{book_of}
use Rattle.info.proofs.Elements.{attributes_length}
use Rattle.shape.proofs.BookScans.{AttributeScan, attributes_start}

abbrev pub invariant-loop-i : goal.invariant-loop-i
invariant-loop-i l = AttributeScan (book_of l.book l.pairs) l.n l.i l.last
