-- `states::effect_at` meets its contract. Assumes nothing.
use Rattle.states.proofs.effect_at.Goals as goal
use native.Mathlib.Omega.{arith}
use mathlib.Core.Path.{ap}
use Rattle.rules.specs.Sheet.{book_of}
use Rattle.info.proofs.Elements.{type_effects_length}
use Rattle.states.proofs.Raising.{effect_of, turn_own, turn_base}

pub overflow_add-own : goal.overflow_add-own
overflow_add-own c = record { fits = omega (arith, c.requires.inside.0, c.requires.inside.1, c.requires.one_of_them, c.requires.held_book.type_effects.few) }

pub type_effect-requires : goal.type_effect-requires
type_effect-requires c = record {
  held_book = c.requires.held_book;
  inside = omega (arith, c.if-k-own.true, c.requires.inside.0);
}

pub returns-then-k-own : goal.returns-then-k-own
returns-then-k-own c = record { defined = λ d. ap effect_of (turn_own (book_of c.args.book.now c.args.pairs.now).type_effects c.args.own.first c.args.own.count c.args.base.first c.args.base.count (omega (arith, c.requires.inside.0, type_effects_length c.args.book.now c.args.pairs.now)) (omega (arith, c.requires.inside.1, type_effects_length c.args.book.now c.args.pairs.now)) c.args.k d _ c.if-k-own.true c.type_effect.ensures.record_i) }

pub overflow_add-base : goal.overflow_add-base
overflow_add-base c = record { fits = omega (arith, c.requires.inside.0, c.requires.inside.1, c.requires.one_of_them, c.requires.held_book.type_effects.few) }

pub type_effect-requires-2 : goal.type_effect-requires-2
type_effect-requires-2 c = record {
  held_book = c.requires.held_book;
  inside = omega (arith, c.if-k-own.false, c.requires.inside.1, c.requires.one_of_them);
}

pub returns : goal.returns
returns c = record { defined = λ d. ap effect_of (turn_base (book_of c.args.book.now c.args.pairs.now).type_effects c.args.own.first c.args.own.count c.args.base.first c.args.base.count (omega (arith, c.requires.inside.0, type_effects_length c.args.book.now c.args.pairs.now)) (omega (arith, c.requires.inside.1, type_effects_length c.args.book.now c.args.pairs.now)) c.args.k d _ c.if-k-own.false c.requires.one_of_them c.type_effect-2.ensures.record_i) }
