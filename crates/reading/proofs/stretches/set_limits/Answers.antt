-- `stretches::set_limits` meets its contract.
use Rattle.reading.proofs.stretches.set_limits.Goals as goal
use Rattle.reading.proofs.stretches.set_limits.Goals.{then-a, else-a}
use Prim.Native.Nat.{◌<◌, ◌^◌}
use lib.Signed.{mag}
use Rattle.std.proofs.Common.{rules}
use borrow.Author.Rules.{sfits_of}
use Rattle.rules.specs.Sheet.{book_of}
use Rattle.info.proofs.Elements.{attributes_length}
use Rattle.reading.proofs.Limiting.{mark_place, marking_none, marking_on, marking_here, marking_all}

pub loop-i-init : goal.loop-i-init
loop-i-init c = marking_none

pub loop-i-preserved : goal.loop-i-preserved
loop-i-preserved c = elim c.if-a.branch [
  | then-a w ↦ rw w.marks-is (marking_here c.loop-i.invariant c.attribute-a.result c.attribute-a.ensures.record_i (mark_place c.attribute-a.result.id (let fits : mag c.attribute-a.result.id < 2 ^ 31 = search rules in sfits_of fits) c.bits.ensures.defined c.index-at.ensures.defined.0))
  | else-a w ↦ rw w.marks-is (marking_on c.loop-i.invariant c.attribute-a.result c.attribute-a.ensures.record_i (let fits : mag c.attribute-a.result.min_attribute_id < 2 ^ 31 = search rules in sfits_of fits) (let fits : mag c.attribute-a.result.max_attribute_id < 2 ^ 31 = search rules in sfits_of fits) w.if-a.false)
]

pub returns : goal.returns
returns c = record { limits = marking_all (book_of c.args.book.now c.args.pairs.now) c.loop-i.invariant c.loop-i-test.false c.count_of-attributes.ensures.defined (attributes_length c.args.book.now c.args.pairs.now) }
