-- `objects::collect_objects` meets its contract. What is left of the objects decides. Assumes nothing.
use Rattle.collect.proofs.objects.collect_objects.Goals as goal
use native.Mathlib.Omega.{arith}
use mathlib.Core.Path.{refl, ◌∙◌}
use Rattle.rules.specs.Sheet.{book_of, fit_of}
use Rattle.info.proofs.Elements.{objects_length}
use Rattle.modifier.specs.Ran.{stop}
use Rattle.modifier.proofs.Runs.{ran_same}
use Rattle.modifier.proofs.Tests.{given_on}
use Rattle.modifier.proofs.Loops.{begin, next, refused_on, at_end_lem}
use Rattle.collect.specs.Parts.{object_moves}
use Rattle.collect.proofs.Turns.{all_lent_kept}
use Rattle.collect.proofs.Neighbours.{stands_at}
use Rattle.collect.proofs.Ranges.{ranged_all}

pub loop-i-init : goal.loop-i-init
loop-i-init c = (begin _ _ _ _ _ _ c.requires.ranged.ordered, (refl, (refl, refl)))

pub object-o-requires : goal.object-o-requires
object-o-requires c = record {
  held_fit = c.requires.sound_fit.held;
  inside = omega (arith, c.loop-i-test.true, c.requires.ranged.inside, objects_length c.args.fit.now c.args.pairs.now);
}

pub collect_object-requires : goal.collect_object-requires
collect_object-requires c = record {
  lent = all_lent_kept c.requires.lent c.loop-i.invariant.1.0 c.loop-i.invariant.1.1.0 c.loop-i.invariant.1.1.1;
  sound_book = c.requires.sound_book;
  sound_fit = c.requires.sound_fit;
  hull_of_fit = c.requires.hull_of_fit;
  of_fit = stands_at c.args.fit.now c.args.pairs.now c.loop-i.i c.object-o.result (omega (arith, c.loop-i-test.true, c.requires.ranged.inside, objects_length c.args.fit.now c.args.pairs.now)) c.object-o.ensures.record_i;
}

pub loop-i-preserved : goal.loop-i-preserved
loop-i-preserved c = (next c.loop-i.invariant.0 (λ x. object_moves (book_of c.args.book.now c.args.pairs.now) (fit_of c.args.fit.now c.args.pairs.now) c.args.phase c.object-o.result) _ c.loop-i-test.true c.requires.ranged.inside c.object-o.ensures.record_i (λ x. refl) (λ x. c.in_ok-used.ensures.defined), (omega (arith, c.collect_object.auto, c.loop-i.invariant.1), (omega (arith, c.collect_object.auto, c.loop-i.invariant.1), omega (arith, c.collect_object.auto, c.loop-i.invariant.1))))

pub returns-in_err-used : goal.returns-in_err-used
returns-in_err-used c = record {
  defined = rw (given_on _ c.from_residual.ensures.1)
      (refused_on (next c.loop-i.invariant.0 (λ x. object_moves (book_of c.args.book.now c.args.pairs.now) (fit_of c.args.fit.now c.args.pairs.now) c.args.phase c.object-o.result) (λ x. stop c.in_err-used.field-0.0) c.loop-i-test.true c.requires.ranged.inside c.object-o.ensures.record_i (λ x. refl) (λ x. c.in_err-used.ensures.defined)) tt _ refl
      ∙ ran_same _ _ (ranged_all (book_of c.args.book.now c.args.pairs.now) (fit_of c.args.fit.now c.args.pairs.now) c.args.phase c.args.first c.args.end c.requires.ranged));
}

pub returns : goal.returns
returns c = record { defined = at_end_lem c.loop-i.invariant.0 tt c.loop-i-test.false ∙ ran_same _ _ (ranged_all (book_of c.args.book.now c.args.pairs.now) (fit_of c.args.fit.now c.args.pairs.now) c.args.phase c.args.first c.args.end c.requires.ranged) }
