-- `build::build` meets its contract. The measure is how many objects are left.
use Rattle.maps.proofs.build.build.Goals as goal
use native.Mathlib.Omega.{arith}
use mathlib.Core.Path.{refl, sym, ap, ◌∙◌}
use Rattle.rules.specs.Sheet.{book_of, fit_of}
use Rattle.info.proofs.Elements.{objects_length}
use Rattle.maps.specs.Keys.{width_of}
use Rattle.std.specs.Prelude.{Some, None}
use Rattle.maps.proofs.Building.{making_start, making_counting, making_more, keys_few, built_few, built_full, built_all}

pub returns-then-long-all : goal.returns-then-long-all
returns-then-long-all c = record { built = built_few (book_of c.args.book.now c.args.pairs.now) (fit_of c.args.fit.now c.args.pairs.now) c.width_of-width.result _ (c.width_of-width.ensures.defined ∙ ap width_of (c.count_of-objects.ensures.defined ∙ sym (objects_length c.args.fit.now c.args.pairs.now))) refl c.if-long-all.true }

pub loop-i-init : goal.loop-i-init
loop-i-init c = (omega arith, (refl, (refl, making_start (book_of c.args.book.now c.args.pairs.now) (fit_of c.args.fit.now c.args.pairs.now) c.requires.fresh (omega (arith, c.width_of-width.ensures.defined, c.count_of-objects.ensures.defined, c.requires.sound_fit.held.objects.few)) (omega (arith, c.if-long-all.false)) c.clear_map.ensures.cleared)))

pub mark_object-requires : goal.mark_object-requires
mark_object-requires c = record {
  held_book = c.requires.held_book;
  sound_fit = c.requires.sound_fit;
  an_object = omega (arith, c.loop-i-test.true, c.count_of-objects.ensures.defined);
  counted = making_counting (book_of c.args.book.now c.args.pairs.now) (fit_of c.args.fit.now c.args.pairs.now) c.width_of-width.result c.loop-i.i c.loop-i.n c.loop-i.words c.loop-i.heads c.loop-i.invariant.1.1.1;
  small = (omega (arith, c.loop-i.invariant.1.1.1.0, keys_few (book_of c.args.book.now c.args.pairs.now) (fit_of c.args.fit.now c.args.pairs.now) c.loop-i.i, c.loop-i-test.true, c.count_of-objects.ensures.defined, c.requires.sound_fit.held.objects.few), omega (arith, c.loop-i-test.true, c.width_of-width.ensures.defined));
}

pub returns-in_err-n : goal.returns-in_err-n
returns-in_err-n c = rw c.from_residual.ensures (record { built = built_full (book_of c.args.book.now c.args.pairs.now) (fit_of c.args.fit.now c.args.pairs.now) c.width_of-width.result _ (c.width_of-width.ensures.defined ∙ ap width_of (c.count_of-objects.ensures.defined ∙ sym (objects_length c.args.fit.now c.args.pairs.now))) c.loop-i.i (omega (arith, c.loop-i-test.true, c.count_of-objects.ensures.defined, objects_length c.args.fit.now c.args.pairs.now)) (omega (arith, c.mark_object.auto, c.loop-i.invariant.1.0, c.clear_map.ensures.cleared.long)) (making_more (book_of c.args.book.now c.args.pairs.now) (fit_of c.args.fit.now c.args.pairs.now) c.width_of-width.result c.loop-i.i _ _ None c.in_err-n.was (c.mark_object.ensures.marked _ _ _ c.loop-i.invariant.1.1.1.1 c.loop-i.invariant.1.1.1.0)) })

pub loop-i-preserved : goal.loop-i-preserved
loop-i-preserved c = (omega (arith, c.loop-i-test.true), (omega (arith, c.mark_object.auto, c.loop-i.invariant.1.0), (omega (arith, c.mark_object.auto, c.loop-i.invariant.1.1.0), making_more (book_of c.args.book.now c.args.pairs.now) (fit_of c.args.fit.now c.args.pairs.now) c.width_of-width.result c.loop-i.i _ _ (Some _) c.in_ok-n.was (c.mark_object.ensures.marked _ _ _ c.loop-i.invariant.1.1.1.1 c.loop-i.invariant.1.1.1.0))))

pub returns : goal.returns
returns c = record { built = built_all (book_of c.args.book.now c.args.pairs.now) (fit_of c.args.fit.now c.args.pairs.now) c.width_of-width.result _ (c.width_of-width.ensures.defined ∙ ap width_of (c.count_of-objects.ensures.defined ∙ sym (objects_length c.args.fit.now c.args.pairs.now))) c.loop-i.i c.loop-i.n (omega (arith, c.loop-i.invariant.0, c.loop-i-test.false, c.count_of-objects.ensures.defined, objects_length c.args.fit.now c.args.pairs.now)) (omega (arith, c.loop-i.invariant.1.0, c.clear_map.ensures.cleared.long)) c.loop-i.invariant.1.1.1 c.head_of.ensures.defined }
