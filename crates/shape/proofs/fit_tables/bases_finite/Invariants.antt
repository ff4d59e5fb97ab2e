use Rattle.shape.proofs.fit_tables.bases_finite.Given as goal
use Rattle.shape.proofs.fit_tables.bases_finite.Reads as reads
use Rattle.shape.proofs.fit_tables.bases_finite.Lts as lts
use Rattle.info.proofs.header.count_of.Reads as count-of-reads
use Rattle.shape.proofs.fit_tables.base_finite.Reads as base-finite-reads
use native.Mathlib.Omega.{arith}
use Prim.Native.Nat.{◌-◌}
use borrow.Author.Tests.{not-true, not-false}
use mathlib.Core.Path.{refl, ap, ◌∙◌}
use mathlib.Core.Path.{sym}
use Rattle.laws.specs.Lists.{every?}
use Rattle.laws.specs.Floats.{finite}
use Rattle.rules.specs.Sheet.{fit_of}
use Rattle.shape.proofs.FiniteBits.{base_nth}
use Rattle.shape.proofs.Scans.{each_start}
use Rattle.info.proofs.Elements.{bases_length}
use Rattle.shape.proofs.Scans.{Each, scan_next, scan_failed, scan_done}

abbrev pub invariant-loop-i : goal.invariant-loop-i
invariant-loop-i l = Each (λ r. finite r.value) (every? (λ r. finite r.value) (fit_of l.fit l.pairs).bases) (fit_of l.fit l.pairs).bases l.n l.i
