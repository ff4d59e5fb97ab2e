-- `fit_tables::objects_good` meets its contract. Assumes nothing.
use Rattle.shape.proofs.fit_tables.objects_good.Goals as goal
use Prim.Native.Nat.{◌-◌}
use mathlib.Core.Path.{refl, sym, ◌∙◌}
use Rattle.rules.specs.Sheet.{fit_of}
use Rattle.shape.proofs.Scans.{scan_next, scan_failed, scan_done, and_same}
use Rattle.shape.proofs.FitScans.{ObjectScan, objects_start}
use Rattle.info.proofs.Elements.{objects_length, bases_length, ids_length}

pub loop-i-init : goal.loop-i-init
loop-i-init c = objects_start _ (objects_length _ _ ∙ sym c.count_of-n.ensures.defined)

pub returns-then-not-good : goal.returns-then-not-good
returns-then-not-good c = record { defined = scan_failed c.loop-i.invariant c.loop-i-test.true c.object-o.ensures.record_i (and_same c.stands-standing.ensures.defined (c.object_good.ensures.defined _ (c.count_of-bases.ensures.defined ∙ sym (bases_length _ _)) (c.count_of-ids.ensures.defined ∙ sym (ids_length _ _)))) c.if-not-good.true }

pub loop-i-preserved : goal.loop-i-preserved
loop-i-preserved c = scan_next c.loop-i.invariant c.loop-i-test.true c.object-o.ensures.record_i (and_same c.stands-standing.ensures.defined (c.object_good.ensures.defined _ (c.count_of-bases.ensures.defined ∙ sym (bases_length _ _)) (c.count_of-ids.ensures.defined ∙ sym (ids_length _ _)))) c.if-not-good.false refl

pub returns : goal.returns
returns c = record { defined = scan_done c.loop-i.invariant c.loop-i-test.false }
