-- `fit::objects_good` meets its contract. Assumes nothing.
use Rattle.lent.proofs.fit.objects_good.Goals as goal
use mathlib.Core.Path.{refl, sym}
use mathlib.Core.List.{[]}
use Rattle.tables.specs.Tables.{fit_tables, fit_lent}
use Rattle.shape.proofs.Scans.{scan_next, scan_failed, scan_done, and_same}
use Rattle.shape.proofs.FitScans.{objects_start}
use Rattle.lent.proofs.Nths.{object-nth, objects_long, bases_long, ids_long}

pub loop-i-init : goal.loop-i-init
loop-i-init c = objects_start _ (objects_long (fit_tables [] c.args.objects.now c.args.base_attributes.now [] c.args.ids.now [] [] []))

pub returns-then-not-good : goal.returns-then-not-good
returns-then-not-good c = record { defined = scan_failed c.loop-i.invariant c.loop-i-test.true (object-nth (fit_tables [] c.args.objects.now c.args.base_attributes.now [] c.args.ids.now [] [] []) c.loop-i-test.true c.object-o.ensures.defined) (and_same c.stands.ensures.defined (c.object_good.ensures.defined (fit_lent (fit_tables [] c.args.objects.now c.args.base_attributes.now [] c.args.ids.now [] [] [])) (sym (bases_long (fit_tables [] c.args.objects.now c.args.base_attributes.now [] c.args.ids.now [] [] []))) (sym (ids_long (fit_tables [] c.args.objects.now c.args.base_attributes.now [] c.args.ids.now [] [] []))))) c.if-not-good.true }

pub loop-i-preserved : goal.loop-i-preserved
loop-i-preserved c = scan_next c.loop-i.invariant c.loop-i-test.true (object-nth (fit_tables [] c.args.objects.now c.args.base_attributes.now [] c.args.ids.now [] [] []) c.loop-i-test.true c.object-o.ensures.defined) (and_same c.stands.ensures.defined (c.object_good.ensures.defined (fit_lent (fit_tables [] c.args.objects.now c.args.base_attributes.now [] c.args.ids.now [] [] [])) (sym (bases_long (fit_tables [] c.args.objects.now c.args.base_attributes.now [] c.args.ids.now [] [] []))) (sym (ids_long (fit_tables [] c.args.objects.now c.args.base_attributes.now [] c.args.ids.now [] [] []))))) c.if-not-good.false refl

pub returns : goal.returns
returns c = record { defined = scan_done c.loop-i.invariant c.loop-i-test.false }
