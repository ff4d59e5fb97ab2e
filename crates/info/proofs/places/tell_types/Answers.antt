-- `places::tell_types` meets its contract: it stays inside. The measure is how many records are left. Assumes nothing.
use Rattle.info.proofs.places.tell_types.Goals as goal
use native.Mathlib.Omega.{arith}

pub loop-i-init : goal.loop-i-init
loop-i-init c = omega (arith, c.count_of-i.ensures.defined)

pub type_effect-t-requires : goal.type_effect-t-requires
type_effect-t-requires c = record {
  held_book = c.requires.held_book;
  inside = omega (arith, c.loop-i.invariant, c.loop-i-test.true);
}

pub overflow_cast-place : goal.overflow_cast-place
overflow_cast-place c = omega (arith, c.loop-i.invariant, c.requires.held_book.type_effects.few)

pub loop-i-preserved : goal.loop-i-preserved
loop-i-preserved c = omega (arith, c.loop-i.invariant)
