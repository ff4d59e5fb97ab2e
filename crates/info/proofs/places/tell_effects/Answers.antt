-- `places::tell_effects` meets its contract: it stays inside. The measure is how many records are left. Assumes nothing.
use Rattle.info.proofs.places.tell_effects.Goals as goal
use native.Mathlib.Omega.{arith}

pub loop-i-init : goal.loop-i-init
loop-i-init c = tt

pub effect-e-requires : goal.effect-e-requires
effect-e-requires c = record {
  held_book = c.requires.held_book;
  inside = omega (arith, c.loop-i-test.true, c.count_of-n.ensures.defined);
}

pub overflow_cast-place : goal.overflow_cast-place
overflow_cast-place c = omega (arith, c.loop-i-test.true, c.count_of-n.ensures.defined, c.requires.held_book.effects.few)

pub loop-i-preserved : goal.loop-i-preserved
loop-i-preserved c = tt
