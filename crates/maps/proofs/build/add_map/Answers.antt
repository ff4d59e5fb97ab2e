-- `build::add_map` meets its contract.
use Rattle.maps.proofs.build.add_map.Goals as goal
use Prim.Native.Nat.{◌+◌, ◌*◌, ◌%◌}
use native.Mathlib.Omega.{arith}
use mathlib.Core.Path.{refl}
use lib.ListN.{get_or, length-set}
use Rattle.maps.proofs.Index.{head_small, head_next}
use Rattle.maps.proofs.Making.{add_made, last_few}

pub overflow_cast-before : goal.overflow_cast-before
overflow_cast-before c = record { fits = omega (arith, last_few c.requires.counted.held.mapped c.args.key) }

pub overflow_mul-words : goal.overflow_mul-words
overflow_mul-words c = record { fits = omega (arith, last_few c.requires.counted.held.mapped c.args.key) }

pub overflow_add-words : goal.overflow_add-words
overflow_add-words c = record { fits = omega (arith, c.requires.small.0, last_few c.requires.counted.held.mapped c.args.key) }

pub offset_bounds-words-at : goal.offset_bounds-words-at
offset_bounds-words-at c = record { fits = omega (arith, c.head_of-at.ensures.defined, head_small c.args.width c.args.maps c.requires.counted.held.mapped.narrow (omega (arith, c.requires.small.1))) }

pub bounds-words-at : goal.bounds-words-at
bounds-words-at c = omega (arith, c.head_of-at.ensures.defined, head_next c.args.width c.args.maps, c.requires.small.2)

pub overflow_add-at : goal.overflow_add-at
overflow_add-at c = record { fits = omega (arith, c.head_of-at.ensures.defined, head_small c.args.width c.args.maps c.requires.counted.held.mapped.narrow (omega (arith, c.requires.small.1))) }

pub clear_map-requires : goal.clear_map-requires
clear_map-requires c = record { inside = omega (arith, c.head_of-at.ensures.defined, head_next c.args.width c.args.maps, c.requires.small.2, length-set c.args.words.now c.head_of-at.result (c.args.key + 17179869184 * get_or c.args.heads.now (c.args.key % 1024) 0)) }

pub shape_of-words : goal.shape_of-words
shape_of-words c = omega (arith, c.clear_map.ensures.cleared.long, length-set c.args.words.now c.head_of-at.result (c.args.key + 17179869184 * get_or c.args.heads.now (c.args.key % 1024) 0))

pub returns : goal.returns
returns c = record { added = λ l h ks M q g. add_made M c.args.key g c.requires.small.0 q c.requires.small.2 c.requires.small.1 c.head_of-at.ensures.defined refl c.clear_map.ensures.cleared refl }
