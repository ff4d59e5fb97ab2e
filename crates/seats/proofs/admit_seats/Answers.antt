-- `seats::admit_seats` meets its contract.
use Rattle.seats.proofs.admit_seats.Goals as goal
use native.Mathlib.Omega.{arith}
use Rattle.seats.proofs.First.{place_some, place_none}
use Rattle.seats.proofs.Ways.{good_few, good, out_room, out_table, out_number, out_in, out_length, out_pool, out_all, out_part}

pub returns-then-room-lt-FREE : goal.returns-then-room-lt-FREE
returns-then-room-lt-FREE c = record { defined = out_room c.args.t c.args.count c.args.stretches.now c.args.pool c.args.room c.args.pilot c.args.wanted c.if-room-lt-FREE.true }

pub returns-then-not-table_good : goal.returns-then-not-table_good
returns-then-not-table_good c = record { defined = out_table c.args.t c.args.count c.args.stretches.now c.args.pool c.args.room c.args.pilot c.args.wanted c.if-room-lt-FREE.false c.table_good.ensures.defined c.if-not-table_good.true }

pub returns-then-pilot-gt15 : goal.returns-then-pilot-gt15
returns-then-pilot-gt15 c = record { defined = out_number c.args.t c.args.count c.args.stretches.now c.args.pool c.args.room c.args.pilot c.args.wanted c.if-room-lt-FREE.false c.table_good.ensures.defined c.if-not-table_good.false c.if-pilot-gt15.true }

pub returns-then-held-gt0 : goal.returns-then-held-gt0
returns-then-held-gt0 c = record { defined = out_in c.args.t c.args.count c.args.stretches.now c.args.pool c.args.room c.args.pilot c.args.wanted c.if-room-lt-FREE.false c.table_good.ensures.defined c.if-not-table_good.false (omega (arith, c.if-pilot-gt15.false)) c.if-held-gt0.true }

pub returns-then-wanted-eq0 : goal.returns-then-wanted-eq0
returns-then-wanted-eq0 c = record { defined = out_length c.args.t c.args.count c.args.stretches.now c.args.pool c.args.room c.args.pilot c.args.wanted c.if-room-lt-FREE.false c.table_good.ensures.defined c.if-not-table_good.false (omega (arith, c.if-pilot-gt15.false)) (omega (arith, c.if-held-gt0.false)) c.if-wanted-eq0.true }

pub first_long-requires : goal.first_long-requires
first_long-requires c = record { few = good_few c.args.t c.args.count c.args.stretches.now c.args.pool c.well_formed.0.1.0.1 (good c.args.t c.args.count c.args.stretches.now c.args.pool c.args.room c.args.pilot c.args.wanted c.if-room-lt-FREE.false c.table_good.ensures.defined c.if-not-table_good.false) }

pub returns-in_default : goal.returns-in_default
returns-in_default c = record { defined = out_pool c.args.t c.args.count c.args.stretches.now c.args.pool c.args.room c.args.pilot c.args.wanted c.if-room-lt-FREE.false c.table_good.ensures.defined c.if-not-table_good.false (omega (arith, c.if-pilot-gt15.false)) (omega (arith, c.if-held-gt0.false)) c.if-wanted-eq0.false c.well_formed.0.1.0.1 (place_none c.first_long.ensures.defined c.in_default.not-Some) }

pub bounds-t-i : goal.bounds-t-i
bounds-t-i c = let z = good_few c.args.t c.args.count c.args.stretches.now c.args.pool c.well_formed.0.1.0.1 (good c.args.t c.args.count c.args.stretches.now c.args.pool c.args.room c.args.pilot c.args.wanted c.if-room-lt-FREE.false c.table_good.ensures.defined c.if-not-table_good.false) in let p = place_some c.first_long.ensures.defined c.in-Some.is in omega (arith, z, p.1)

pub bounds-t-i-2 : goal.bounds-t-i-2
bounds-t-i-2 c = let z = good_few c.args.t c.args.count c.args.stretches.now c.args.pool c.well_formed.0.1.0.1 (good c.args.t c.args.count c.args.stretches.now c.args.pool c.args.room c.args.pilot c.args.wanted c.if-room-lt-FREE.false c.table_good.ensures.defined c.if-not-table_good.false) in let p = place_some c.first_long.ensures.defined c.in-Some.is in omega (arith, z, p.1)

pub returns-then-t-i : goal.returns-then-t-i
returns-then-t-i c = record { defined = let p = place_some c.first_long.ensures.defined c.in-Some.is in out_all c.args.t c.args.count c.args.stretches.now c.args.pool c.args.room c.args.pilot c.args.wanted c.if-room-lt-FREE.false c.table_good.ensures.defined c.if-not-table_good.false (omega (arith, c.if-pilot-gt15.false)) (omega (arith, c.if-held-gt0.false)) c.if-wanted-eq0.false c.well_formed.0.1.0.1 p.0 p.1 c.if-t-i.true }

pub returns : goal.returns
returns c = record { defined = let p = place_some c.first_long.ensures.defined c.in-Some.is in out_part c.args.t c.args.count c.args.stretches.now c.args.pool c.args.room c.args.pilot c.args.wanted c.if-room-lt-FREE.false c.table_good.ensures.defined c.if-not-table_good.false (omega (arith, c.if-pilot-gt15.false)) (omega (arith, c.if-held-gt0.false)) c.if-wanted-eq0.false c.well_formed.0.1.0.1 p.0 p.1 c.if-t-i.false }
