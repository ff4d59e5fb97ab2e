-- `seats::freed_count` meets its contract.
use Rattle.seats.proofs.freed_count.Goals as goal
use Rattle.seats.proofs.freed_count.Goals.{then-end-next, else-end-next}
use Prim.Native.Nat.{◌+◌}
use native.Mathlib.Omega.{arith}
use mathlib.Core.Path.{◌∙◌}
use Rattle.seats.proofs.Join.{counting_none, counting_gap, counting_touch, counting_end, place_few, order_long, put_is}

pub put_at-last-requires : goal.put_at-last-requires
put_at-last-requires c = record { places = (let z = place_few c.args.t c.args.n c.first_behind-k.result c.args.s c.well_formed.0.1.0.1 c.requires.few c.first_behind-k.ensures.defined in omega (arith, z, c.requires.few), omega (arith, c.requires.few)) }

pub loop-i-init : goal.loop-i-init
loop-i-init c = counting_none (c.put_at-last.ensures.defined ∙ put_is c.args.t c.args.n c.first_behind-k.result c.args.s c.well_formed.0.1.0.1 c.requires.few c.first_behind-k.ensures.defined 0 (omega arith)) (let z = order_long c.args.t c.args.n c.first_behind-k.result c.args.s c.well_formed.0.1.0.1 c.requires.few c.first_behind-k.ensures.defined in omega (arith, z))

pub put_at-next-requires : goal.put_at-next-requires
put_at-next-requires c = record { places = (let z = place_few c.args.t c.args.n c.first_behind-k.result c.args.s c.well_formed.0.1.0.1 c.requires.few c.first_behind-k.ensures.defined in omega (arith, z, c.requires.few), omega (arith, c.requires.few)) }

pub loop-i-preserved : goal.loop-i-preserved
loop-i-preserved c =
    elim c.if-end-next.branch [
      | then-end-next w ↦ rw w.m-is (counting_gap c.loop-i.invariant (let z = order_long c.args.t c.args.n c.first_behind-k.result c.args.s c.well_formed.0.1.0.1 c.requires.few c.first_behind-k.ensures.defined in omega (arith, z, c.loop-i-test.true)) (c.put_at-next.ensures.defined ∙ put_is c.args.t c.args.n c.first_behind-k.result c.args.s c.well_formed.0.1.0.1 c.requires.few c.first_behind-k.ensures.defined (c.loop-i.i + 1) (omega (arith, c.loop-i-test.true))) c.end.ensures.defined w.if-end-next.true)
      | else-end-next w ↦ rw w.m-is (counting_touch c.loop-i.invariant (let z = order_long c.args.t c.args.n c.first_behind-k.result c.args.s c.well_formed.0.1.0.1 c.requires.few c.first_behind-k.ensures.defined in omega (arith, z, c.loop-i-test.true)) (c.put_at-next.ensures.defined ∙ put_is c.args.t c.args.n c.first_behind-k.result c.args.s c.well_formed.0.1.0.1 c.requires.few c.first_behind-k.ensures.defined (c.loop-i.i + 1) (omega (arith, c.loop-i-test.true))) c.end.ensures.defined w.if-end-next.false)
    ]

pub overflow_add-m : goal.overflow_add-m
overflow_add-m c = record { fits = omega (arith, c.loop-i.invariant.most, c.loop-i-test.true, c.requires.few) }

pub returns : goal.returns
returns c = record { defined = counting_end c.loop-i.invariant (let z = order_long c.args.t c.args.n c.first_behind-k.result c.args.s c.well_formed.0.1.0.1 c.requires.few c.first_behind-k.ensures.defined in omega (arith, z, c.loop-i-test.false)) }
