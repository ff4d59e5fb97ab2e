-- `collecting::collect_modifiers` meets its contract. What is left of the modifiers decides. Assumes nothing.
use Rattle.collect.proofs.collecting.collect_modifiers.Goals as goal
use Rattle.collect.proofs.collecting.collect_modifiers.Goals.{in-Some+in_ok-used, in_default}
use native.Mathlib.Omega.{arith}
use mathlib.Core.Path.{refl, sym, ◌∙◌}
use mathlib.Core.List.{[], ◌∷◌}
use Rattle.std.specs.Prelude.{Ok}
use Rattle.rules.specs.Sheet.{book_of}
use Rattle.rules.specs.Collect.{taken, refuse}
use Rattle.info.proofs.Elements.{modifiers_length}
use Rattle.modifier.specs.Ran.{stop}
use Rattle.modifier.proofs.Runs.{ran_none, refused-one}
use Rattle.modifier.proofs.Tests.{given_on}
use Rattle.modifier.proofs.Loops.{next, refused_on, at_end_lem, counted-from}

pub returns-in_err-e : goal.returns-in_err-e
returns-in_err-e g c = record {
  defined = λ moves given l.
      rw (given_on _ c.from_residual.ensures.1)
      (refused_on (next c.loop-i.invariant.0 (λ x. refuse c.in_err-e.field-0.0 ∷ []) (λ x. stop c.in_err-e.field-0.0) c.loop-i-test.true (omega (arith, modifiers_length c.args.book.now c.args.pairs.now, c.requires.inside, c.index-start.ensures.defined.0, c.index.ensures.defined.0)) c.modifier-m.ensures.record_i
      (λ x. x.given _ _ c.in_err-e.ensures) (λ x. refused-one _ _ _ _ _ x.column _)) (record { moves = moves; column = l; given = given }) _ refl
      ∙ counted-from _ moves (book_of c.args.book.now c.args.pairs.now).modifiers _ c.index-start.ensures.defined.0 c.index.ensures.defined.0 refl);
}

pub returns-in_err-used : goal.returns-in_err-used
returns-in_err-used g c = record {
  defined = λ moves given l.
      rw (given_on _ c.from_residual-in_err-used.ensures.1)
      (refused_on (next c.loop-i.invariant.0 (λ x. taken c.in-Some.e ∷ []) (λ x. stop c.in_err-used.field-0.0) c.loop-i-test.true (omega (arith, modifiers_length c.args.book.now c.args.pairs.now, c.requires.inside, c.index-start.ensures.defined.0, c.index.ensures.defined.0)) c.modifier-m.ensures.record_i
      (λ x. rw c.in-Some.is at (x.given c.modifier-m.result (Ok c.in_ok-e.field-0) c.in_ok-e.ensures)) (λ x. c.in_err-used.ensures.defined x.column)) (record { moves = moves; column = l; given = given }) _ refl
      ∙ counted-from _ moves (book_of c.args.book.now c.args.pairs.now).modifiers _ c.index-start.ensures.defined.0 c.index.ensures.defined.0 refl);
}

pub loop-i-preserved : goal.loop-i-preserved
loop-i-preserved g c = elim c.match-branch-2.branch [
  | in-Some+in_ok-used w ↦ (
    next c.loop-i.invariant.0 (λ x. taken w.in-Some.e ∷ []) _ c.loop-i-test.true (omega (arith, modifiers_length c.args.book.now c.args.pairs.now, c.requires.inside, c.index-start.ensures.defined.0, c.index.ensures.defined.0)) c.modifier-m.ensures.record_i
        (λ x. rw w.in-Some.is at (x.given c.modifier-m.result (Ok c.in_ok-e.field-0) c.in_ok-e.ensures)) (λ x. rw (w.used-is, w.collected-is, w.collected_values-is) (w.in_ok-used.ensures.defined x.column)),
    (omega (arith, c.match-branch-2.auto, c.loop-i.invariant.1), omega (arith, c.match-branch-2.auto, c.loop-i.invariant.1)),
  )
  | in_default w ↦ (
    next c.loop-i.invariant.0 (λ x. []) _ c.loop-i-test.true (omega (arith, modifiers_length c.args.book.now c.args.pairs.now, c.requires.inside, c.index-start.ensures.defined.0, c.index.ensures.defined.0)) c.modifier-m.ensures.record_i
        (λ x. rw w.in_default.is at (x.given c.modifier-m.result (Ok c.in_ok-e.field-0) c.in_ok-e.ensures)) (λ x. rw (w.used-is, w.collected-is, w.collected_values-is) (sym (ran_none _ _))),
    (omega (arith, c.match-branch-2.auto, c.loop-i.invariant.1), omega (arith, c.match-branch-2.auto, c.loop-i.invariant.1)),
  )
]

pub returns : goal.returns
returns g c = record {
  defined = λ moves given l.
      at_end_lem c.loop-i.invariant.0 (record { moves = moves; column = l; given = given }) c.loop-i-test.false
      ∙ counted-from _ moves (book_of c.args.book.now c.args.pairs.now).modifiers _ c.index-start.ensures.defined.0 c.index.ensures.defined.0 refl;
}
