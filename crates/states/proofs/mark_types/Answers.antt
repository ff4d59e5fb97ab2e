-- `states::mark_types` meets its contract. Assumes nothing.
use Rattle.states.proofs.mark_types.Goals as goal
use Rattle.states.proofs.mark_types.Goals.{then-raising-index-ne0, else-raising-index-ne0}
use native.Mathlib.Omega.{arith}
use Rattle.std.proofs.Common.{rules}
use Rattle.rules.specs.Sheet.{book_of}
use Rattle.info.proofs.Elements.{type_effects_length}
use Rattle.states.proofs.Marking.{type_slot, mark_place, marking_none, marking_on, marking_here, idle_type, types_marked}

pub loop-i-init : goal.loop-i-init
loop-i-init c = marking_none type_slot _ c.requires.even

pub loop-i-preserved : goal.loop-i-preserved
loop-i-preserved c = elim c.if-raising-index-ne0.branch [
  | then-raising-index-ne0 w ↦ rw w.marks-is (marking_here type_slot _ c.loop-i.invariant c.type_effect-t.result c.type_effect-t.ensures.record_i (mark_place c.type_effect-t.result.type_id (search rules) w.bits-then-raising-index-ne0.ensures.defined w.index-then-raising-index-ne0.ensures.defined.0) (omega (arith, w.index-then-raising-index-ne0.ensures.defined.0)))
  | else-raising-index-ne0 w ↦ rw w.marks-is (marking_on type_slot _ c.loop-i.invariant c.type_effect-t.result c.type_effect-t.ensures.record_i (idle_type (book_of c.args.book.now c.args.pairs.now) c.args.raising.now c.requires.raising c.type_effect-t.result (mark_place c.type_effect-t.result.effect_id (search rules) c.bits.ensures.defined c.index.ensures.defined.0) w.if-raising-index-ne0.false))
]

pub returns : goal.returns
returns c = record { marked = types_marked (book_of c.args.book.now c.args.pairs.now) c.loop-i.invariant c.loop-i-test.false c.count_of-i-end.ensures.defined (type_effects_length c.args.book.now c.args.pairs.now) }
