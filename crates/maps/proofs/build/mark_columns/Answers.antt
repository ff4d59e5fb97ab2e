-- `build::mark_columns` meets its contract. The measure is how many locations are left.
use Rattle.maps.proofs.build.mark_columns.Goals as goal
use Rattle.maps.proofs.build.mark_columns.Goals.{then-flag-ne0, else-flag-ne0}
use native.Mathlib.Omega.{arith}
use mathlib.Core.Path.{refl}
use Rattle.maps.proofs.Index.{column_later}
use Rattle.maps.proofs.Building.{columns_none, columns_here, columns_on, columns-done}

pub loop-c-init : goal.loop-c-init
loop-c-init c = (omega arith, (refl, λ l h ks hs M. columns_none l c.args.row c.args.i M))

pub overflow_mul-at : goal.overflow_mul-at
overflow_mul-at c = record { fits = omega (arith, column_later c.args.width c.loop-c.c 6 c.loop-c-test.true, c.requires.inside.0) }

pub set_bit-requires : goal.set_bit-requires
set_bit-requires c = record { inside = (omega (arith, c.requires.inside.2, c.requires.inside.0), omega (arith, column_later c.args.width c.loop-c.c 6 c.loop-c-test.true, c.requires.inside.0), omega (arith, column_later c.args.width c.loop-c.c 6 c.loop-c-test.true, c.requires.inside.1, c.requires.inside.2, c.loop-c.invariant.1.0)) }

pub loop-c-preserved : goal.loop-c-preserved
loop-c-preserved c = elim c.if-flag-ne0.branch [
  | then-flag-ne0 w ↦ rw w.words-is ((omega (arith, c.loop-c-test.true), (omega (arith, w.set_bit.auto, c.loop-c.invariant.1.0), λ l h ks hs M. columns_here l c.args.row c.args.i c.loop-c.c (c.loop-c.invariant.1.1 l h ks hs M) c.loop-c-test.true c.requires.inside.2 w.if-flag-ne0.true w.set_bit.ensures.defined)))
  | else-flag-ne0 w ↦ rw w.words-is ((omega (arith, c.loop-c-test.true), (c.loop-c.invariant.1.0, λ l h ks hs M. columns_on l c.args.row c.args.i c.loop-c.c (c.loop-c.invariant.1.1 l h ks hs M) w.if-flag-ne0.false)))
]

pub returns : goal.returns
returns c = record { marked = λ l h ks hs M. columns-done l c.args.row c.args.i c.loop-c.c c.loop-c.invariant.0 c.loop-c-test.false (c.loop-c.invariant.1.1 l h ks hs M) }
