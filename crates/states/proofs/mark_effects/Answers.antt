-- `states::mark_effects` meets its contract. Assumes nothing.
use Rattle.states.proofs.mark_effects.Goals as goal
use Rattle.states.proofs.mark_effects.Goals.{then-matches, else-matches, in-1-to-3, in_default, in_default-2}
use native.Mathlib.Omega.{arith}
use mathlib.Core.Logic.{inl, inr}
use Rattle.std.proofs.Common.{rules}
use Rattle.rules.specs.Sheet.{book_of}
use Rattle.info.proofs.Elements.{effects_length}
use Rattle.states.proofs.Marking.{effect_slot, IdleEffect, mark_place, marking_none, marking_on, marking_here, idle_code, effects_marked}

pub loop-i-init : goal.loop-i-init
loop-i-init c = marking_none effect_slot IdleEffect c.requires.even

pub loop-i-preserved : goal.loop-i-preserved
loop-i-preserved c = elim c.if-matches.branch [
  | then-matches w ↦ rw w.marks-is (marking_here effect_slot IdleEffect c.loop-i.invariant c.effect-e.result c.effect-e.ensures.record_i (mark_place c.effect-e.result.id (search rules) w.bits.ensures.defined w.index.ensures.defined.0) (omega (arith, w.index.ensures.defined.0)))
  | else-matches w ↦ rw w.marks-is (marking_on effect_slot IdleEffect c.loop-i.invariant c.effect-e.result c.effect-e.ensures.record_i (idle_code c.effect-e.result.category (elim c.if-matches-2.branch [ in-1-to-3 v ↦ cc | in_default v ↦ inl (omega arith) | in_default-2 v ↦ inr (omega arith) ])))
]

pub returns : goal.returns
returns c = record { marked = effects_marked (book_of c.args.book.now c.args.pairs.now) c.loop-i.invariant c.loop-i-test.false c.count_of-i-end.ensures.defined (effects_length c.args.book.now c.args.pairs.now) }
