-- `entries_added` meets its contract. The measure is how many words are left.
use Rattle.maps.proofs.entries_added.Goals as goal
use Prim.Native.Nat.{◌+◌}
use native.Mathlib.Omega.{arith}
use Rattle.maps.proofs.Cuts.{first, next, fits_word, fits_more, more_few, last}

pub loop-w-init : goal.loop-w-init
loop-w-init c = (omega arith, (omega arith, first _ _ _))

pub overflow_cast-total : goal.overflow_cast-total
overflow_cast-total c = fits_word _ _ (c.shared_slice_known-1.given (c.args.c.location + c.loop-w.w))

pub overflow_add-total : goal.overflow_add-total
overflow_add-total c = fits_more _ _ _ _ _ (c.shared_slice_known-1.given (c.args.c.location + c.loop-w.w)) c.loop-w-test.true c.requires.inside.2 c.loop-w.invariant.1.0

pub loop-w-preserved : goal.loop-w-preserved
loop-w-preserved c = (omega (arith, c.loop-w-test.true), (more_few _ _ _ _ (c.shared_slice_known-1.given (c.args.c.location + c.loop-w.w)) c.loop-w.invariant.1.0, next _ _ _ _ _ c.loop-w.invariant.1.1))

pub returns : goal.returns
returns c = record { defined = last _ _ _ _ _ _ c.loop-w.invariant.0 c.loop-w-test.false c.loop-w.invariant.1.1 }
