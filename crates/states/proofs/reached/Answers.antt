-- `states::reached` meets its contract. What is left of the effects decides. Assumes nothing.
use Rattle.states.proofs.reached.Goals as goal
use Rattle.states.proofs.reached.Goals.{then-not-is_doubled, else-not-is_doubled}
use Prim.Native.Nat.{max}
use native.Mathlib.Omega.{arith}
use mathlib.Core.Path.{sym, ap, ◌∙◌}
use mathlib.Core.Bool.{not}
use borrow.Author.Rules.{sfits_of}
use Rattle.laws.specs.Lists.{span}
use Rattle.rules.specs.Sheet.{book_of}
use Rattle.info.proofs.Elements.{type_effects_length}
use Rattle.states.specs.Raised.{turns_of}
use Rattle.states.proofs.Raising.{run_of, base_of_lem, reached_start, turns_length, turn_is, raise_by, raise_over, raise_end}

pub returns-then-is_settled : goal.returns-then-is_settled
returns-then-is_settled c = record { defined = sym (c.is_settled.ensures.settled (book_of c.args.book.now c.args.pairs.now) c.requires.marked c.if-is_settled.true) }

pub get_dogma_effects-own-requires : goal.get_dogma_effects-own-requires
get_dogma_effects-own-requires c = record { sound_book = c.requires.sound_book }

pub base_effects-base-requires : goal.base_effects-base-requires
base_effects-base-requires c = record { sound_book = c.requires.sound_book }

pub overflow_add-total : goal.overflow_add-total
overflow_add-total c = record { fits = omega (arith, c.get_dogma_effects-own.ensures.together.within, c.base_effects-base.ensures.together.within, type_effects_length c.args.book.now c.args.pairs.now, c.requires.sound_book.held.type_effects.few) }

pub loop-k-init : goal.loop-k-init
loop-k-init c = reached_start (book_of c.args.book.now c.args.pairs.now) c.args.o (run_of (book_of c.args.book.now c.args.pairs.now) c.args.o.type_id (sfits_of c.struct_told-1.given.1.1.0.1) c.get_dogma_effects-own.ensures.together) (base_of_lem (book_of c.args.book.now c.args.pairs.now) c.args.o _ c.mutation_base.ensures.defined c.base_effects-base.ensures.together) _ (sym (turns_length (book_of c.args.book.now c.args.pairs.now).type_effects c.get_dogma_effects-own.result.first c.get_dogma_effects-own.result.count c.base_effects-base.result.first c.base_effects-base.result.count c.get_dogma_effects-own.ensures.together.within c.base_effects-base.ensures.together.within))

pub effect_at-t-requires : goal.effect_at-t-requires
effect_at-t-requires c = record {
  held_book = c.requires.sound_book.held;
  inside = (omega (arith, c.get_dogma_effects-own.ensures.together.within, type_effects_length c.args.book.now c.args.pairs.now), omega (arith, c.base_effects-base.ensures.together.within, type_effects_length c.args.book.now c.args.pairs.now));
  one_of_them = c.loop-k-test.true;
}

pub is_doubled-requires-clause-inside : goal.is_doubled-requires-clause-inside
is_doubled-requires-clause-inside c = omega (arith, c.get_dogma_effects-own.ensures.together.within, type_effects_length c.args.book.now c.args.pairs.now)

pub loop-k-preserved : goal.loop-k-preserved
loop-k-preserved c = elim c.if-not-is_doubled.branch [
  | then-not-is_doubled w ↦ rw w.top-is (raise_by _ _ _ _ (turn_is (turns_of (span c.get_dogma_effects-own.result.first c.get_dogma_effects-own.result.count (book_of c.args.book.now c.args.pairs.now).type_effects) (span c.base_effects-base.result.first c.base_effects-base.result.count (book_of c.args.book.now c.args.pairs.now).type_effects)) c.loop-k.k c.effect_at-t.ensures.defined (λ d. c.is_doubled.ensures.defined c.base_effects-base.result d c.loop-k-test.true (omega (arith, c.base_effects-base.ensures.together.within, type_effects_length c.args.book.now c.args.pairs.now)) (c.effect_at-t.ensures.defined d))) c.loop-k-test.true (omega (arith, c.loop-k-test.true, turns_length (book_of c.args.book.now c.args.pairs.now).type_effects c.get_dogma_effects-own.result.first c.get_dogma_effects-own.result.count c.base_effects-base.result.first c.base_effects-base.result.count c.get_dogma_effects-own.ensures.together.within c.base_effects-base.ensures.together.within)) _ _ _ c.loop-k.invariant _ (ap not w.if-not-is_doubled.true) (w.max-top.ensures ∙ ap (max c.loop-k.top) w.reach_by.ensures.defined))
  | else-not-is_doubled w ↦ rw w.top-is (raise_over _ _ _ _ (turn_is (turns_of (span c.get_dogma_effects-own.result.first c.get_dogma_effects-own.result.count (book_of c.args.book.now c.args.pairs.now).type_effects) (span c.base_effects-base.result.first c.base_effects-base.result.count (book_of c.args.book.now c.args.pairs.now).type_effects)) c.loop-k.k c.effect_at-t.ensures.defined (λ d. c.is_doubled.ensures.defined c.base_effects-base.result d c.loop-k-test.true (omega (arith, c.base_effects-base.ensures.together.within, type_effects_length c.args.book.now c.args.pairs.now)) (c.effect_at-t.ensures.defined d))) c.loop-k-test.true (omega (arith, c.loop-k-test.true, turns_length (book_of c.args.book.now c.args.pairs.now).type_effects c.get_dogma_effects-own.result.first c.get_dogma_effects-own.result.count c.base_effects-base.result.first c.base_effects-base.result.count c.get_dogma_effects-own.ensures.together.within c.base_effects-base.ensures.together.within)) _ _ _ c.loop-k.invariant (ap not w.if-not-is_doubled.false))
]

pub returns : goal.returns
returns c = record { defined = raise_end _ _ _ c.loop-k-test.false _ _ _ c.loop-k.invariant }
