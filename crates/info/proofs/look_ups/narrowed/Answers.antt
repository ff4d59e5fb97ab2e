-- `look_ups::narrowed` meets its contract. The measure is how many places are left. Assumes nothing.
use Rattle.info.proofs.look_ups.narrowed.Goals as goal
use Prim.Native.Nat.{◌/◌}
use native.Mathlib.Nat.{zero-add}
use native.Mathlib.Omega.{arith}
use borrow.Author.Rules.{sfits_of}
use mathlib.Core.Path.{refl}
use Rattle.info.proofs.Searches.{bounds_start, bounds_back, bounds_high, bounds_narrowed, key_inside, key_less}

pub loop-left-init : goal.loop-left-init
loop-left-init c = rw (zero-add c.args.n) (bounds_start _ _ _ _ _)

pub overflow_add-low : goal.overflow_add-low
overflow_add-low c = omega (arith, bounds_high _ _ _ _ _ c.requires.keyed c.loop-left.invariant, c.ranges.n.fits)

pub key_at-first-requires : goal.key_at-first-requires
key_at-first-requires c = record { inside = key_inside _ _ _ _ c.requires.keyed _ (omega (arith, bounds_high _ _ _ _ _ c.requires.keyed c.loop-left.invariant, c.loop-left-test.true)) }

pub overflow_mul-q : goal.overflow_mul-q
overflow_mul-q c = omega (arith, bounds_high _ _ _ _ _ c.requires.keyed c.loop-left.invariant, c.ranges.n.fits)

pub overflow_add-low-in-loop-left : goal.overflow_add-low-in-loop-left
overflow_add-low-in-loop-left c = omega (arith, bounds_high _ _ _ _ _ c.requires.keyed c.loop-left.invariant, c.ranges.n.fits)

pub key_at-middle-requires : goal.key_at-middle-requires
key_at-middle-requires c = record { inside = key_inside _ _ _ _ c.requires.keyed _ (omega (arith, bounds_high _ _ _ _ _ c.requires.keyed c.loop-left.invariant, c.loop-left-test.true)) }

pub overflow_mul-q-in-loop-left : goal.overflow_mul-q-in-loop-left
overflow_mul-q-in-loop-left c = omega (arith, bounds_high _ _ _ _ _ c.requires.keyed c.loop-left.invariant, c.ranges.n.fits)

pub overflow_add-low-in-loop-left-2 : goal.overflow_add-low-in-loop-left-2
overflow_add-low-in-loop-left-2 c = omega (arith, bounds_high _ _ _ _ _ c.requires.keyed c.loop-left.invariant, c.ranges.n.fits)

pub key_at-last-requires : goal.key_at-last-requires
key_at-last-requires c = record { inside = key_inside _ _ _ _ c.requires.keyed _ (omega (arith, bounds_high _ _ _ _ _ c.requires.keyed c.loop-left.invariant, c.loop-left-test.true)) }

pub overflow_add-low-in-loop-left-3 : goal.overflow_add-low-in-loop-left-3
overflow_add-low-in-loop-left-3 c = omega (arith, bounds_high _ _ _ _ _ c.requires.keyed c.loop-left.invariant, c.ranges.n.fits, c.step.ensures.at_most)

pub overflow_add-low-in-loop-left-4 : goal.overflow_add-low-in-loop-left-4
overflow_add-low-in-loop-left-4 c = omega (arith, bounds_high _ _ _ _ _ c.requires.keyed c.loop-left.invariant, c.ranges.n.fits, c.step.ensures.at_most, c.step-in-loop-left.ensures.at_most)

pub overflow_add-low-in-loop-left-5 : goal.overflow_add-low-in-loop-left-5
overflow_add-low-in-loop-left-5 c = omega (arith, bounds_high _ _ _ _ _ c.requires.keyed c.loop-left.invariant, c.ranges.n.fits, c.step.ensures.at_most, c.step-in-loop-left.ensures.at_most, c.step-in-loop-left-2.ensures.at_most)

pub overflow_mul-left : goal.overflow_mul-left
overflow_mul-left c = omega (arith, bounds_high _ _ _ _ _ c.requires.keyed c.loop-left.invariant, c.ranges.n.fits)

pub loop-left-preserved : goal.loop-left-preserved
loop-left-preserved c = bounds_narrowed _ _ _ _ _ c.requires.keyed c.loop-left.low c.loop-left.left (c.loop-left.left / 4) c.loop-left.invariant (omega (arith, c.loop-left-test.true)) (omega arith) (key_less (sfits_of c.key_at-first.type_inv) c.key_at-first.ensures.defined _ _ refl) c.step.ensures.defined (key_less (sfits_of c.key_at-middle.type_inv) c.key_at-middle.ensures.defined _ _ refl) c.step-in-loop-left.ensures.defined (key_less (sfits_of c.key_at-last.type_inv) c.key_at-last.ensures.defined _ _ refl) c.step-in-loop-left-2.ensures.defined

pub returns : goal.returns
returns c = record { narrowed = bounds_back c.args.b.now c.args.at c.args.w c.args.n c.args.id c.ranges.id c.loop-left.invariant }
