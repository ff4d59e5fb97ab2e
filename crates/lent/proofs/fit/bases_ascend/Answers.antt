-- `fit::bases_ascend` meets its contract. Assumes nothing.
use Rattle.lent.proofs.fit.bases_ascend.Goals as goal
use mathlib.Core.Path.{refl, ◌∙◌}
use mathlib.Core.List.{[]}
use Rattle.tables.specs.Tables.{fit_tables, fit_lent}
use Rattle.shape.proofs.Scans.{scan_next, scan_failed, scan_done, each_start}
use Rattle.shape.proofs.FitScans.{range_held}
use Rattle.lent.proofs.Nths.{object-nth, objects_long, bases_long, same_bases}

pub loop-i-init : goal.loop-i-init
loop-i-init c = each_start _ (objects_long (fit_tables [] c.args.objects.now c.args.base_attributes.now c.args.base_values.now [] [] [] []))

pub range_ascends-requires : goal.range_ascends-requires
range_ascends-requires c = record {
  beside = c.requires.beside;
  inside = rw (← (bases_long (fit_tables [] c.args.objects.now c.args.base_attributes.now [] c.args.ids.now [] [] []))) (range_held (fit_lent (fit_tables [] c.args.objects.now c.args.base_attributes.now [] c.args.ids.now [] [] [])) c.requires.good_objects (rw (objects_long (fit_tables [] c.args.objects.now c.args.base_attributes.now [] c.args.ids.now [] [] [])) c.loop-i-test.true) (object-nth (fit_tables [] c.args.objects.now c.args.base_attributes.now [] c.args.ids.now [] [] []) c.loop-i-test.true c.object-o.ensures.defined) c.index-first.ensures.defined.0 c.index-count.ensures.defined.0);
}

pub returns-then-not-range_ascends : goal.returns-then-not-range_ascends
returns-then-not-range_ascends c = record { defined = scan_failed c.loop-i.invariant c.loop-i-test.true (object-nth (fit_tables [] c.args.objects.now c.args.base_attributes.now c.args.base_values.now [] [] [] []) c.loop-i-test.true c.object-o.ensures.defined) (c.range_ascends.ensures.defined ∙ same_bases c.args.objects.now c.args.base_attributes.now c.args.base_values.now c.index-first.ensures.defined.0 c.index-count.ensures.defined.0) c.if-not-range_ascends.true }

pub loop-i-preserved : goal.loop-i-preserved
loop-i-preserved c = scan_next c.loop-i.invariant c.loop-i-test.true (object-nth (fit_tables [] c.args.objects.now c.args.base_attributes.now c.args.base_values.now [] [] [] []) c.loop-i-test.true c.object-o.ensures.defined) (c.range_ascends.ensures.defined ∙ same_bases c.args.objects.now c.args.base_attributes.now c.args.base_values.now c.index-first.ensures.defined.0 c.index-count.ensures.defined.0) c.if-not-range_ascends.false refl

pub returns : goal.returns
returns c = record { defined = scan_done c.loop-i.invariant c.loop-i-test.false }
