-- `fit_tables::bases_ascend` meets its contract. Assumes nothing.
use Rattle.shape.proofs.fit_tables.bases_ascend.Goals as goal
use Prim.Native.Nat.{◌-◌}
use mathlib.Core.Path.{refl, ap, ◌∙◌}
use mathlib.Core.Path.{sym}
use Rattle.laws.specs.Lists.{every?}
use Rattle.rules.specs.Sheet.{fit_of}
use Rattle.shape.specs.Ranges.{range_ascends}
use Rattle.shape.proofs.Scans.{each_start}
use Rattle.shape.proofs.FitScans.{range_same, range_held}
use Rattle.info.proofs.Elements.{objects_length, bases_length}
use Rattle.shape.proofs.Scans.{Each, scan_next, scan_failed, scan_done}

pub loop-i-init : goal.loop-i-init
loop-i-init c = each_start _ (objects_length _ _ ∙ sym c.count_of-n.ensures.defined)

pub range_ascends-good-requires : goal.range_ascends-good-requires
range_ascends-good-requires c = record {
  held_fit = c.requires.held_fit;
  inside = rw (← (bases_length c.args.fit.now c.args.pairs.now)) (range_held (fit_of c.args.fit.now c.args.pairs.now) c.requires.good_objects (rw (objects_length c.args.fit.now c.args.pairs.now, ← c.count_of-n.ensures.defined) c.loop-i-test.true) c.object-o.ensures.record_i c.index-first.ensures.defined.0 c.index-count.ensures.defined.0);
}

pub returns-then-not-good : goal.returns-then-not-good
returns-then-not-good c = record { defined = scan_failed c.loop-i.invariant c.loop-i-test.true c.object-o.ensures.record_i (c.range_ascends-good.ensures.defined ∙ range_same (fit_of c.args.fit.now c.args.pairs.now) c.index-first.ensures.defined.0 c.index-count.ensures.defined.0) c.if-not-good.true }

pub loop-i-preserved : goal.loop-i-preserved
loop-i-preserved c = scan_next c.loop-i.invariant c.loop-i-test.true c.object-o.ensures.record_i (c.range_ascends-good.ensures.defined ∙ range_same (fit_of c.args.fit.now c.args.pairs.now) c.index-first.ensures.defined.0 c.index-count.ensures.defined.0) c.if-not-good.false refl

pub returns : goal.returns
returns c = record { defined = scan_done c.loop-i.invariant c.loop-i-test.false }
