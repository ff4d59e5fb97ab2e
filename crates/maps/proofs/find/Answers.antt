-- `find` meets its contract. The measure is the number of the map that is looked at.
use Rattle.maps.proofs.find.Goals as goal
use Prim.Native.Nat.{ℕ}
use native.Mathlib.Omega.{arith}
use mathlib.Core.Path.{refl, ap}
use lib.ListN.{get_or}
use Rattle.maps.proofs.Making.{last_few}
use Rattle.maps.proofs.Index.{positive, head_small, seeking_first, seek_inside, seek_few, seek_less, seek_found, seek_next, seek_none}

pub overflow_cast-m : goal.overflow_cast-m
overflow_cast-m c = record { fits = omega (arith, last_few c.requires.maps.mapped c.args.key) }

pub loop-m-init : goal.loop-m-init
loop-m-init c = λ l h ks M. seeking_first M c.args.key refl

pub overflow_sub-m : goal.overflow_sub-m
overflow_sub-m c = omega (arith, positive _ c.loop-m-test.true)

pub head_of-requires : goal.head_of-requires
head_of-requires c = record { small = (c.requires.maps.mapped.narrow, seek_few c.requires.maps.mapped c.args.key (c.loop-m.invariant _ _ _ c.requires.maps.mapped) (positive _ c.loop-m-test.true)) }

pub offset_bounds-words-head_of : goal.offset_bounds-words-head_of
offset_bounds-words-head_of c = record { fits = omega (arith, c.head_of.ensures.defined, head_small _ _ c.requires.maps.mapped.narrow (seek_few c.requires.maps.mapped c.args.key (c.loop-m.invariant _ _ _ c.requires.maps.mapped) (positive _ c.loop-m-test.true))) }

pub bounds-words-head_of : goal.bounds-words-head_of
bounds-words-head_of c = omega (arith, c.head_of.ensures.defined, seek_inside c.requires.maps.mapped c.args.key (c.loop-m.invariant _ _ _ c.requires.maps.mapped) (positive _ c.loop-m-test.true))

pub returns-then-head-key : goal.returns-then-head-key
returns-then-head-key c = record { found = λ l h ks M. seek_found M c.args.key (c.loop-m.invariant l h ks M) (positive _ c.loop-m-test.true) (ap (λ (n : ℕ). get_or c.args.words.now n 0) c.head_of.ensures.defined) c.if-head-key.true }

pub loop-m-smaller : goal.loop-m-smaller
loop-m-smaller c = seek_less c.requires.maps.mapped c.args.key (c.loop-m.invariant _ _ _ c.requires.maps.mapped) (positive _ c.loop-m-test.true) (ap (λ (n : ℕ). get_or c.args.words.now n 0) c.head_of.ensures.defined)

pub loop-m-preserved : goal.loop-m-preserved
loop-m-preserved c = λ l h ks M. seek_next M c.args.key (c.loop-m.invariant l h ks M) (positive _ c.loop-m-test.true) (ap (λ (n : ℕ). get_or c.args.words.now n 0) c.head_of.ensures.defined) c.if-head-key.false

pub returns : goal.returns
returns c = record { found = λ l h ks M. seek_none M c.args.key (c.loop-m.invariant l h ks M) c.loop-m-test.false }
