use Rattle.shape.proofs.fit_tables.buffs_good.Given as goal
use Prim.Native.Nat.{◌-◌}
use borrow.Author.Tests.{not-true, not-false}
use mathlib.Core.Path.{refl, sym, ◌∙◌}
use Rattle.info.proofs.Elements.{buffs_length}
use Rattle.laws.specs.Floats.{finite}
use Rattle.rules.specs.Sheet.{fit_of}
use Rattle.rules.specs.Shape.{buffs_good}
use Rattle.shape.proofs.FitScans.{buffs_start}
use Rattle.shape.proofs.Scans.{Each, scan_next, scan_failed, scan_done}

abbrev pub invariant-loop-i : goal.invariant-loop-i
invariant-loop-i l = Each (λ r. finite r.value) (buffs_good (fit_of l.fit l.pairs)) (fit_of l.fit l.pairs).buffs l.n l.i
