-- `fit_tables::bases_finite` meets its contract. Assumes nothing.
use Rattle.shape.proofs.fit_tables.bases_finite.Goals as goal
use Rattle.shape.proofs.fit_tables.bases_finite.Reads as reads
use Rattle.shape.proofs.fit_tables.bases_finite.Lts as lts
use Rattle.info.proofs.header.count_of.Reads as count-of-reads
use Rattle.shape.proofs.fit_tables.base_finite.Reads as base-finite-reads
use native.Mathlib.Omega.{arith}
use Prim.Native.Nat.{◌-◌}
use mathlib.Core.Path.{refl, ap, ◌∙◌}
use mathlib.Core.Path.{sym}
use Rattle.laws.specs.Lists.{every?}
use Rattle.laws.specs.Floats.{finite}
use Rattle.rules.specs.Sheet.{fit_of}
use Rattle.shape.proofs.FiniteBits.{base_nth}
use Rattle.shape.proofs.Scans.{each_start}
use Rattle.info.proofs.Elements.{bases_length}
use Rattle.shape.proofs.Scans.{Each, scan_next, scan_failed, scan_done}

pub loop-i-init : goal.loop-i-init
loop-i-init c = each_start _ (bases_length _ _ ∙ sym c.count_of-n.ensures.defined)

pub returns-then-not-good : goal.returns-then-not-good
returns-then-not-good c = record { defined = scan_failed c.loop-i.invariant c.loop-i-test.true (base_nth (fit_of c.args.fit.now c.args.pairs.now) c.loop-i.i (omega (arith, c.loop-i-test.true, c.loop-i.invariant.long))) (c.base_finite-good.ensures.defined _ (base_nth (fit_of c.args.fit.now c.args.pairs.now) c.loop-i.i (omega (arith, c.loop-i-test.true, c.loop-i.invariant.long)))) c.if-not-good.true }

pub loop-i-preserved : goal.loop-i-preserved
loop-i-preserved c = scan_next c.loop-i.invariant c.loop-i-test.true (base_nth (fit_of c.args.fit.now c.args.pairs.now) c.loop-i.i (omega (arith, c.loop-i-test.true, c.loop-i.invariant.long))) (c.base_finite-good.ensures.defined _ (base_nth (fit_of c.args.fit.now c.args.pairs.now) c.loop-i.i (omega (arith, c.loop-i-test.true, c.loop-i.invariant.long)))) c.if-not-good.false refl

pub returns : goal.returns
returns c = record { defined = scan_done c.loop-i.invariant c.loop-i-test.false }
