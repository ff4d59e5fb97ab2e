-- `effects::collect_effects` meets its contract. What is left of the effects decides. Assumes nothing.
use Rattle.collect.proofs.effects.collect_effects.Goals as goal
use Rattle.collect.proofs.effects.collect_effects.Goals.{then-not-is_doubled+in_ok-used, else-not-is_doubled}
use native.Mathlib.Omega.{arith}
use mathlib.Core.Path.{refl, sym, ap, ◌∙◌}
use mathlib.Core.Bool.{Bool, not, cond}
use mathlib.Core.List.{[]}
use Prim.Native.Nat.{◌<◌, ◌^◌}
use lib.Signed.{mag}
use Rattle.std.proofs.Common.{rules}
use Rattle.laws.specs.Lists.{span}
use Rattle.rules.specs.Sheet.{book_of, fit_of}
use Rattle.rules.specs.Collect.{effect_moves}
use Rattle.info.proofs.Elements.{type_effects_length}
use Rattle.states.specs.Raised.{turns_of}
use Rattle.states.proofs.Raising.{run_of, base_of_lem, turns_length, turn_is}
use Rattle.modifier.specs.Ran.{at, stop}
use Rattle.modifier.proofs.Runs.{ran_none, ran_same}
use Rattle.modifier.proofs.Tests.{given_on}
use Rattle.modifier.proofs.Loops.{next, refused_on, at_end_lem, all_of}
use Rattle.collect.specs.New.{turn_moves}
use Rattle.collect.proofs.Turns.{all_lent_kept}
use Rattle.collect.proofs.Own.{own_turns}

pub overflow_add-total : goal.overflow_add-total
overflow_add-total c = record { fits = omega (arith, c.get_dogma_effects-own.ensures.together.within, c.base_effects-base.ensures.together.within, type_effects_length c.args.book.now c.args.pairs.now, c.requires.sound_book.held.type_effects.few) }

pub effect_at-t-requires : goal.effect_at-t-requires
effect_at-t-requires c = record {
  held_book = c.requires.sound_book.held;
  inside = (omega (arith, c.get_dogma_effects-own.ensures.together.within, type_effects_length c.args.book.now c.args.pairs.now), omega (arith, c.base_effects-base.ensures.together.within, type_effects_length c.args.book.now c.args.pairs.now));
  one_of_them = c.loop-i-test.true;
}

pub is_doubled-requires-clause-inside : goal.is_doubled-requires-clause-inside
is_doubled-requires-clause-inside c = omega (arith, c.get_dogma_effects-own.ensures.together.within, type_effects_length c.args.book.now c.args.pairs.now)

pub collect_effect-requires : goal.collect_effect-requires
collect_effect-requires c = record {
  lent = all_lent_kept c.requires.lent c.loop-i.invariant.1.0 c.loop-i.invariant.1.1.0 c.loop-i.invariant.1.1.1;
  sound_book = c.requires.sound_book;
  sound_fit = c.requires.sound_fit;
  of_fit = c.requires.of_fit;
  owner = c.requires.owner;
}

pub loop-i-preserved : goal.loop-i-preserved
loop-i-preserved c = elim c.if-not-is_doubled.branch [
  | then-not-is_doubled+in_ok-used w ↦ (
    next c.loop-i.invariant.0 (λ x. effect_moves (book_of c.args.book.now c.args.pairs.now) (fit_of c.args.fit.now c.args.pairs.now) c.args.w.item c.effect_at-t.result) _ c.loop-i-test.true (omega (arith, turns_length (book_of c.args.book.now c.args.pairs.now).type_effects c.get_dogma_effects-own.result.first c.get_dogma_effects-own.result.count c.base_effects-base.result.first c.base_effects-base.result.count c.get_dogma_effects-own.ensures.together.within c.base_effects-base.ensures.together.within)) (turn_is (turns_of (span c.get_dogma_effects-own.result.first c.get_dogma_effects-own.result.count (book_of c.args.book.now c.args.pairs.now).type_effects) (span c.base_effects-base.result.first c.base_effects-base.result.count (book_of c.args.book.now c.args.pairs.now).type_effects)) c.loop-i.i c.effect_at-t.ensures.defined (λ d. c.is_doubled.ensures.defined c.base_effects-base.result d c.loop-i-test.true (omega (arith, c.base_effects-base.ensures.together.within, type_effects_length c.args.book.now c.args.pairs.now)) (c.effect_at-t.ensures.defined d)))
        (λ x. sym (ap (λ (t : Bool). cond (not t) (effect_moves (book_of c.args.book.now c.args.pairs.now) (fit_of c.args.fit.now c.args.pairs.now) c.args.w.item c.effect_at-t.result) []) w.if-not-is_doubled.true)) (λ x. rw (w.used-is, w.collected-is, w.collected_values-is, w.plain-is) w.in_ok-used.ensures.defined),
    (omega (arith, c.if-not-is_doubled.auto, c.loop-i.invariant.1), (omega (arith, c.if-not-is_doubled.auto, c.loop-i.invariant.1), omega (arith, c.if-not-is_doubled.auto, c.loop-i.invariant.1))),
  )
  | else-not-is_doubled w ↦ (
    next c.loop-i.invariant.0 (λ x. []) _ c.loop-i-test.true (omega (arith, turns_length (book_of c.args.book.now c.args.pairs.now).type_effects c.get_dogma_effects-own.result.first c.get_dogma_effects-own.result.count c.base_effects-base.result.first c.base_effects-base.result.count c.get_dogma_effects-own.ensures.together.within c.base_effects-base.ensures.together.within)) (turn_is (turns_of (span c.get_dogma_effects-own.result.first c.get_dogma_effects-own.result.count (book_of c.args.book.now c.args.pairs.now).type_effects) (span c.base_effects-base.result.first c.base_effects-base.result.count (book_of c.args.book.now c.args.pairs.now).type_effects)) c.loop-i.i c.effect_at-t.ensures.defined (λ d. c.is_doubled.ensures.defined c.base_effects-base.result d c.loop-i-test.true (omega (arith, c.base_effects-base.ensures.together.within, type_effects_length c.args.book.now c.args.pairs.now)) (c.effect_at-t.ensures.defined d)))
        (λ x. sym (ap (λ (t : Bool). cond (not t) (effect_moves (book_of c.args.book.now c.args.pairs.now) (fit_of c.args.fit.now c.args.pairs.now) c.args.w.item c.effect_at-t.result) []) w.if-not-is_doubled.false)) (λ x. rw (w.used-is, w.collected-is, w.collected_values-is, w.plain-is) (sym (ran_none _ _))),
    (omega (arith, c.if-not-is_doubled.auto, c.loop-i.invariant.1), (omega (arith, c.if-not-is_doubled.auto, c.loop-i.invariant.1), omega (arith, c.if-not-is_doubled.auto, c.loop-i.invariant.1))),
  )
]

pub returns-in_err-used : goal.returns-in_err-used
returns-in_err-used c =
    let fits : mag c.args.w.item.type_id < 2 ^ 31 = search rules in
    record {
      defined = rw (given_on _ c.from_residual.ensures.1)
          (refused_on (next c.loop-i.invariant.0 (λ x. effect_moves (book_of c.args.book.now c.args.pairs.now) (fit_of c.args.fit.now c.args.pairs.now) c.args.w.item c.effect_at-t.result) (λ x. stop c.in_err-used.field-0.0) c.loop-i-test.true (omega (arith, turns_length (book_of c.args.book.now c.args.pairs.now).type_effects c.get_dogma_effects-own.result.first c.get_dogma_effects-own.result.count c.base_effects-base.result.first c.base_effects-base.result.count c.get_dogma_effects-own.ensures.together.within c.base_effects-base.ensures.together.within)) (turn_is (turns_of (span c.get_dogma_effects-own.result.first c.get_dogma_effects-own.result.count (book_of c.args.book.now c.args.pairs.now).type_effects) (span c.base_effects-base.result.first c.base_effects-base.result.count (book_of c.args.book.now c.args.pairs.now).type_effects)) c.loop-i.i c.effect_at-t.ensures.defined (λ d. c.is_doubled.ensures.defined c.base_effects-base.result d c.loop-i-test.true (omega (arith, c.base_effects-base.ensures.together.within, type_effects_length c.args.book.now c.args.pairs.now)) (c.effect_at-t.ensures.defined d)))
          (λ x. sym (ap (λ (t : Bool). cond (not t) (effect_moves (book_of c.args.book.now c.args.pairs.now) (fit_of c.args.fit.now c.args.pairs.now) c.args.w.item c.effect_at-t.result) []) c.if-not-is_doubled.true)) (λ x. c.in_err-used.ensures.defined)) tt _ refl
          ∙ all_of _ (turn_moves (book_of c.args.book.now c.args.pairs.now) (fit_of c.args.fit.now c.args.pairs.now) c.args.w.item) (turns_of (span c.get_dogma_effects-own.result.first c.get_dogma_effects-own.result.count (book_of c.args.book.now c.args.pairs.now).type_effects) (span c.base_effects-base.result.first c.base_effects-base.result.count (book_of c.args.book.now c.args.pairs.now).type_effects)) (at c.args.used.collected c.args.used.plain c.args.collected.now c.args.collected_values.now c.args.plain.now) (sym (turns_length (book_of c.args.book.now c.args.pairs.now).type_effects c.get_dogma_effects-own.result.first c.get_dogma_effects-own.result.count c.base_effects-base.result.first c.base_effects-base.result.count c.get_dogma_effects-own.ensures.together.within c.base_effects-base.ensures.together.within))
          ∙ ran_same _ _ (own_turns (book_of c.args.book.now c.args.pairs.now) (fit_of c.args.fit.now c.args.pairs.now) c.args.w.item (run_of (book_of c.args.book.now c.args.pairs.now) c.args.w.item.type_id (record { sfits = fits }) c.get_dogma_effects-own.ensures.together) (base_of_lem (book_of c.args.book.now c.args.pairs.now) c.args.w.item _ c.mutation_base.ensures.defined c.base_effects-base.ensures.together)));
    }

pub returns : goal.returns
returns c =
    let fits : mag c.args.w.item.type_id < 2 ^ 31 = search rules in
    record {
      defined = at_end_lem c.loop-i.invariant.0 tt c.loop-i-test.false
          ∙ all_of _ (turn_moves (book_of c.args.book.now c.args.pairs.now) (fit_of c.args.fit.now c.args.pairs.now) c.args.w.item) (turns_of (span c.get_dogma_effects-own.result.first c.get_dogma_effects-own.result.count (book_of c.args.book.now c.args.pairs.now).type_effects) (span c.base_effects-base.result.first c.base_effects-base.result.count (book_of c.args.book.now c.args.pairs.now).type_effects)) (at c.args.used.collected c.args.used.plain c.args.collected.now c.args.collected_values.now c.args.plain.now) (sym (turns_length (book_of c.args.book.now c.args.pairs.now).type_effects c.get_dogma_effects-own.result.first c.get_dogma_effects-own.result.count c.base_effects-base.result.first c.base_effects-base.result.count c.get_dogma_effects-own.ensures.together.within c.base_effects-base.ensures.together.within))
          ∙ ran_same _ _ (own_turns (book_of c.args.book.now c.args.pairs.now) (fit_of c.args.fit.now c.args.pairs.now) c.args.w.item (run_of (book_of c.args.book.now c.args.pairs.now) c.args.w.item.type_id (record { sfits = fits }) c.get_dogma_effects-own.ensures.together) (base_of_lem (book_of c.args.book.now c.args.pairs.now) c.args.w.item _ c.mutation_base.ensures.defined c.base_effects-base.ensures.together));
    }
