-- `seats::leave_table` meets its contract.
use Rattle.seats.proofs.leave_table.Goals as goal
use Rattle.seats.proofs.leave_table.Goals.{then-end-next, else-end-next}
use Prim.Native.Nat.{◌+◌}
use native.Mathlib.Omega.{arith}
use mathlib.Core.Path.{ap, ◌∙◌}
use mathlib.Core.List.{List, ◌++◌}
use lib.ListN.{length, take, drop}
use Rattle.free_table.specs.declared.Stretch.{Stretch}
use Rattle.seats.specs.Seats.{freed}
use Rattle.seats.proofs.Join.{joining_none, joining_room, joining_touch, joining_gap, joining_end, joined-table, place_few, order_long, put_is, has_room, empties_room, order_safe}

pub first_behind-k-requires : goal.first_behind-k-requires
first_behind-k-requires c = record { few = c.requires.ready.few }

pub put_at-last-requires : goal.put_at-last-requires
put_at-last-requires c = record { places = (let z = place_few c.args.t c.args.count c.first_behind-k.result c.args.s c.well_formed.0.1.0.1 c.requires.ready.few c.first_behind-k.ensures.defined in omega (arith, z, c.requires.ready.few), omega (arith, c.requires.ready.few)) }

pub emptied-u-requires : goal.emptied-u-requires
emptied-u-requires c = record { few = c.requires.ready.few }

pub loop-i-init : goal.loop-i-init
loop-i-init c = joining_none (c.put_at-last.ensures.defined ∙ put_is c.args.t c.args.count c.first_behind-k.result c.args.s c.well_formed.0.1.0.1 c.requires.ready.few c.first_behind-k.ensures.defined 0 (omega arith)) (let z = order_long c.args.t c.args.count c.first_behind-k.result c.args.s c.well_formed.0.1.0.1 c.requires.ready.few c.first_behind-k.ensures.defined in omega (arith, z)) (order_safe c.args.t c.args.count c.first_behind-k.result c.args.s c.well_formed.0.1.0.1 c.requires.ready.few c.first_behind-k.ensures.defined c.requires.ready 0 (omega arith))

pub put_at-next-requires : goal.put_at-next-requires
put_at-next-requires c = record { places = (let z = place_few c.args.t c.args.count c.first_behind-k.result c.args.s c.well_formed.0.1.0.1 c.requires.ready.few c.first_behind-k.ensures.defined in omega (arith, z, c.requires.ready.few), omega (arith, c.requires.ready.few)) }

pub overflow_add-last : goal.overflow_add-last
overflow_add-last c = record { fits = (let z = joining_touch c.loop-i.invariant (let z = has_room c.args.t c.args.count c.first_behind-k.result c.args.s c.well_formed.0.1.0.1 c.requires.ready.few c.first_behind-k.ensures.defined c.requires.ready.room in let y = ap length c.emptied-u.ensures.defined in omega (arith, z, y)) (let z = order_long c.args.t c.args.count c.first_behind-k.result c.args.s c.well_formed.0.1.0.1 c.requires.ready.few c.first_behind-k.ensures.defined in omega (arith, z, c.loop-i-test.true)) (c.put_at-next.ensures.defined ∙ put_is c.args.t c.args.count c.first_behind-k.result c.args.s c.well_formed.0.1.0.1 c.requires.ready.few c.first_behind-k.ensures.defined (c.loop-i.i + 1) (omega (arith, c.loop-i-test.true))) (order_safe c.args.t c.args.count c.first_behind-k.result c.args.s c.well_formed.0.1.0.1 c.requires.ready.few c.first_behind-k.ensures.defined c.requires.ready (c.loop-i.i + 1) (omega (arith, c.loop-i-test.true))) c.end.ensures.defined c.if-end-next.true in let y = z.end in omega (arith, y)) }

pub offset_bounds-u-m : goal.offset_bounds-u-m
offset_bounds-u-m c = record { fits = (let z = joining_room c.loop-i.invariant (let z = has_room c.args.t c.args.count c.first_behind-k.result c.args.s c.well_formed.0.1.0.1 c.requires.ready.few c.first_behind-k.ensures.defined c.requires.ready.room in let y = ap length c.emptied-u.ensures.defined in omega (arith, z, y)) in let y = ap length c.emptied-u.ensures.defined ∙ empties_room c.args.t c.args.count c.first_behind-k.result c.args.s c.well_formed.0.1.0.1 c.requires.ready.few c.first_behind-k.ensures.defined in omega (arith, z, y)) }

pub bounds-u-m : goal.bounds-u-m
bounds-u-m c = (let z = joining_room c.loop-i.invariant (let z = has_room c.args.t c.args.count c.first_behind-k.result c.args.s c.well_formed.0.1.0.1 c.requires.ready.few c.first_behind-k.ensures.defined c.requires.ready.room in let y = ap length c.emptied-u.ensures.defined in omega (arith, z, y)) in let y = ap length c.emptied-u.ensures.defined ∙ empties_room c.args.t c.args.count c.first_behind-k.result c.args.s c.well_formed.0.1.0.1 c.requires.ready.few c.first_behind-k.ensures.defined in omega (arith, z, y))

pub overflow_add-m : goal.overflow_add-m
overflow_add-m c = record { fits = (let z = joining_room c.loop-i.invariant (let z = has_room c.args.t c.args.count c.first_behind-k.result c.args.s c.well_formed.0.1.0.1 c.requires.ready.few c.first_behind-k.ensures.defined c.requires.ready.room in let y = ap length c.emptied-u.ensures.defined in omega (arith, z, y)) in let y = ap length c.emptied-u.ensures.defined ∙ empties_room c.args.t c.args.count c.first_behind-k.result c.args.s c.well_formed.0.1.0.1 c.requires.ready.few c.first_behind-k.ensures.defined in omega (arith, z, y)) }

pub loop-i-preserved : goal.loop-i-preserved
loop-i-preserved c =
    elim c.if-end-next.branch [
      | then-end-next w ↦ rw (w.m-is, w.u-is, w.last-is) (joining_touch c.loop-i.invariant (let z = has_room c.args.t c.args.count c.first_behind-k.result c.args.s c.well_formed.0.1.0.1 c.requires.ready.few c.first_behind-k.ensures.defined c.requires.ready.room in let y = ap length c.emptied-u.ensures.defined in omega (arith, z, y)) (let z = order_long c.args.t c.args.count c.first_behind-k.result c.args.s c.well_formed.0.1.0.1 c.requires.ready.few c.first_behind-k.ensures.defined in omega (arith, z, c.loop-i-test.true)) (c.put_at-next.ensures.defined ∙ put_is c.args.t c.args.count c.first_behind-k.result c.args.s c.well_formed.0.1.0.1 c.requires.ready.few c.first_behind-k.ensures.defined (c.loop-i.i + 1) (omega (arith, c.loop-i-test.true))) (order_safe c.args.t c.args.count c.first_behind-k.result c.args.s c.well_formed.0.1.0.1 c.requires.ready.few c.first_behind-k.ensures.defined c.requires.ready (c.loop-i.i + 1) (omega (arith, c.loop-i-test.true))) c.end.ensures.defined w.if-end-next.true)
      | else-end-next w ↦ rw (w.m-is, w.u-is, w.last-is) (joining_gap c.loop-i.invariant (let z = has_room c.args.t c.args.count c.first_behind-k.result c.args.s c.well_formed.0.1.0.1 c.requires.ready.few c.first_behind-k.ensures.defined c.requires.ready.room in let y = ap length c.emptied-u.ensures.defined in omega (arith, z, y)) (let z = order_long c.args.t c.args.count c.first_behind-k.result c.args.s c.well_formed.0.1.0.1 c.requires.ready.few c.first_behind-k.ensures.defined in omega (arith, z, c.loop-i-test.true)) (c.put_at-next.ensures.defined ∙ put_is c.args.t c.args.count c.first_behind-k.result c.args.s c.well_formed.0.1.0.1 c.requires.ready.few c.first_behind-k.ensures.defined (c.loop-i.i + 1) (omega (arith, c.loop-i-test.true))) (order_safe c.args.t c.args.count c.first_behind-k.result c.args.s c.well_formed.0.1.0.1 c.requires.ready.few c.first_behind-k.ensures.defined c.requires.ready (c.loop-i.i + 1) (omega (arith, c.loop-i-test.true))) c.end.ensures.defined w.if-end-next.false)
    ]

pub offset_bounds-u-m-2 : goal.offset_bounds-u-m-2
offset_bounds-u-m-2 c = record { fits = (let z = joining_room c.loop-i.invariant (let z = has_room c.args.t c.args.count c.first_behind-k.result c.args.s c.well_formed.0.1.0.1 c.requires.ready.few c.first_behind-k.ensures.defined c.requires.ready.room in let y = ap length c.emptied-u.ensures.defined in omega (arith, z, y)) in let y = ap length c.emptied-u.ensures.defined ∙ empties_room c.args.t c.args.count c.first_behind-k.result c.args.s c.well_formed.0.1.0.1 c.requires.ready.few c.first_behind-k.ensures.defined in omega (arith, z, y)) }

pub bounds-u-m-2 : goal.bounds-u-m-2
bounds-u-m-2 c = (let z = joining_room c.loop-i.invariant (let z = has_room c.args.t c.args.count c.first_behind-k.result c.args.s c.well_formed.0.1.0.1 c.requires.ready.few c.first_behind-k.ensures.defined c.requires.ready.room in let y = ap length c.emptied-u.ensures.defined in omega (arith, z, y)) in let y = ap length c.emptied-u.ensures.defined ∙ empties_room c.args.t c.args.count c.first_behind-k.result c.args.s c.well_formed.0.1.0.1 c.requires.ready.few c.first_behind-k.ensures.defined in omega (arith, z, y))

pub returns : goal.returns
returns c = record { defined = joined-table c.args.t c.args.count c.args.s (joining_end c.loop-i.invariant (let z = has_room c.args.t c.args.count c.first_behind-k.result c.args.s c.well_formed.0.1.0.1 c.requires.ready.few c.first_behind-k.ensures.defined c.requires.ready.room in let y = ap length c.emptied-u.ensures.defined in omega (arith, z, y)) (let z = order_long c.args.t c.args.count c.first_behind-k.result c.args.s c.well_formed.0.1.0.1 c.requires.ready.few c.first_behind-k.ensures.defined in omega (arith, z, c.loop-i-test.false)) ∙ ap (λ (q : List Stretch). freed c.args.s (take c.args.count c.args.t) ++ drop (length (freed c.args.s (take c.args.count c.args.t))) q) c.emptied-u.ensures.defined) }
