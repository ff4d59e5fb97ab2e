-- `build::mark` meets its contract.
use Rattle.maps.proofs.build.mark.Goals as goal
use native.Mathlib.Omega.{arith}
use mathlib.Core.Path.{refl}
use lib.ListN.{length}
use Rattle.maps.proofs.Index.{head_small, head_next, head_later}
use Rattle.maps.proofs.Building.{mark_found, mark_new, mark_full}

pub head_of-at-requires : goal.head_of-at-requires
head_of-at-requires c = record { small = (c.requires.counted.held.mapped.narrow, omega (arith, (c.in-Some.ensures.found _ _ _ c.requires.counted.held.mapped).0, c.requires.counted.held.mapped.few)) }

pub overflow_add-at : goal.overflow_add-at
overflow_add-at c = record { fits = omega (arith, c.head_of-at.ensures.defined, head_small c.args.width c.in-Some.m c.requires.counted.held.mapped.narrow (omega (arith, (c.in-Some.ensures.found _ _ _ c.requires.counted.held.mapped).0, c.requires.counted.held.mapped.few))) }

pub set_bit-requires : goal.set_bit-requires
set_bit-requires c = record { inside = (omega (arith, c.requires.small.2, c.requires.counted.held.mapped.narrow), omega (arith, c.head_of-at.ensures.defined, head_small c.args.width c.in-Some.m c.requires.counted.held.mapped.narrow (omega (arith, (c.in-Some.ensures.found _ _ _ c.requires.counted.held.mapped).0, c.requires.counted.held.mapped.few))), omega (arith, c.requires.small.2, c.head_of-at.ensures.defined, c.requires.counted.held.mapped.fits, head_later c.args.width c.in-Some.m (length c.requires.counted.held.keys) (c.in-Some.ensures.found _ _ _ c.requires.counted.held.mapped).0)) }

pub returns-in-Some : goal.returns-in-Some
returns-in-Some c = record { marked = λ l h ks M q. mark_found M c.args.key c.args.i c.requires.small.2 (c.in-Some.ensures.found l h ks M) q c.head_of-at.ensures.defined c.set_bit.ensures.defined }

pub overflow_add-at-2 : goal.overflow_add-at-2
overflow_add-at-2 c = record { fits = omega (arith, c.requires.counted.held.mapped.narrow, c.head_of-at-2.ensures.defined, head_small c.args.width c.args.maps c.requires.counted.held.mapped.narrow (omega (arith, c.requires.small.1))) }

pub overflow_add-at-3 : goal.overflow_add-at-3
overflow_add-at-3 c = record { fits = omega (arith, c.requires.counted.held.mapped.narrow, c.head_of-at-2.ensures.defined, head_small c.args.width c.args.maps c.requires.counted.held.mapped.narrow (omega (arith, c.requires.small.1))) }

pub returns-then-long-at : goal.returns-then-long-at
returns-then-long-at c = record { marked = λ l h ks M q. mark_full M c.args.key c.args.i (c.in_default.ensures.found l h ks M) q c.head_of-at-2.ensures.defined refl c.if-long-at.true }

pub add_map-requires : goal.add_map-requires
add_map-requires c = record {
  counted = c.requires.counted;
  small = (c.requires.small.0, c.requires.small.1, omega (arith, c.if-long-at.false, c.head_of-at-2.ensures.defined, head_next c.args.width c.args.maps));
}

pub overflow_add-at-4 : goal.overflow_add-at-4
overflow_add-at-4 c = record { fits = omega (arith, c.head_of-at-2.ensures.defined, head_small c.args.width c.args.maps c.requires.counted.held.mapped.narrow (omega (arith, c.requires.small.1))) }

pub set_bit-requires-2 : goal.set_bit-requires-2
set_bit-requires-2 c = record { inside = (omega (arith, c.requires.small.2, c.requires.counted.held.mapped.narrow), omega (arith, c.head_of-at-2.ensures.defined, head_small c.args.width c.args.maps c.requires.counted.held.mapped.narrow (omega (arith, c.requires.small.1))), omega (arith, c.requires.small.2, c.if-long-at.false, c.head_of-at-2.ensures.defined, c.add_map.auto.words)) }

pub returns : goal.returns
returns c = record { marked = λ l h ks M q. mark_new M c.args.key c.args.i c.requires.small.2 (c.in_default.ensures.found l h ks M) q (c.add_map.ensures.added l h ks M q (c.in_default.ensures.found l h ks M)) c.head_of-at-2.ensures.defined c.set_bit-2.ensures.defined }
