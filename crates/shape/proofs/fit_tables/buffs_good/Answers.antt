-- `fit_tables::buffs_good` meets its contract. Assumes nothing.
use Rattle.shape.proofs.fit_tables.buffs_good.Goals as goal
use Prim.Native.Nat.{◌-◌}
use mathlib.Core.Path.{refl, sym, ◌∙◌}
use Rattle.info.proofs.Elements.{buffs_length}
use Rattle.laws.specs.Floats.{finite}
use Rattle.rules.specs.Sheet.{fit_of}
use Rattle.rules.specs.Shape.{buffs_good}
use Rattle.shape.proofs.FitScans.{buffs_start}
use Rattle.shape.proofs.Scans.{Each, scan_next, scan_failed, scan_done}

pub loop-i-init : goal.loop-i-init
loop-i-init c = buffs_start _ (buffs_length _ _ ∙ sym c.count_of-n.ensures.defined)

pub returns-then-not-good : goal.returns-then-not-good
returns-then-not-good c = record { defined = scan_failed c.loop-i.invariant c.loop-i-test.true c.projected_buff-r.ensures.record_i c.is_finite-good.ensures.defined c.if-not-good.true }

pub loop-i-preserved : goal.loop-i-preserved
loop-i-preserved c = scan_next c.loop-i.invariant c.loop-i-test.true c.projected_buff-r.ensures.record_i c.is_finite-good.ensures.defined c.if-not-good.false refl

pub returns : goal.returns
returns c = record { defined = scan_done c.loop-i.invariant c.loop-i-test.false }
