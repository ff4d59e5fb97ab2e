-- `seats::leave_answer` meets its contract.
use Rattle.seats.proofs.leave_answer.Goals as goal
use native.Mathlib.Omega.{arith}
use Rattle.seats.proofs.Ways.{left_room, left_table, left_few, left_number, left_out, left_done}

pub returns-then-room-lt-FREE : goal.returns-then-room-lt-FREE
returns-then-room-lt-FREE c = record { defined = left_room c.args.t c.args.count c.args.stretches.now c.args.pool c.args.room c.args.pilot c.if-room-lt-FREE.true }

pub returns-then-not-table_good : goal.returns-then-not-table_good
returns-then-not-table_good c = record { defined = left_table c.args.t c.args.count c.args.stretches.now c.args.pool c.args.room c.args.pilot c.if-room-lt-FREE.false c.table_good.ensures.defined c.if-not-table_good.true }

pub returns-then-pilot-gt15 : goal.returns-then-pilot-gt15
returns-then-pilot-gt15 c = record { defined = left_number c.args.t c.args.count c.args.stretches.now c.args.pool c.args.room c.args.pilot c.if-room-lt-FREE.false c.table_good.ensures.defined c.if-not-table_good.false c.if-pilot-gt15.true }

pub returns-then-stretch-eq0 : goal.returns-then-stretch-eq0
returns-then-stretch-eq0 c = record { defined = left_out c.args.t c.args.count c.args.stretches.now c.args.pool c.args.room c.args.pilot c.if-room-lt-FREE.false c.table_good.ensures.defined c.if-not-table_good.false (omega (arith, c.if-pilot-gt15.false)) c.seat_of-stretch.ensures.defined c.if-stretch-eq0.true }

pub freed_count-free-requires : goal.freed_count-free-requires
freed_count-free-requires c = record { few = left_few c.args.t c.args.count c.args.stretches.now c.args.pool c.args.room c.args.pilot c.if-room-lt-FREE.false c.table_good.ensures.defined c.if-not-table_good.false c.well_formed.0.1.0.1 }

pub returns : goal.returns
returns c = record { defined = left_done c.args.t c.args.count c.args.stretches.now c.args.pool c.args.room c.args.pilot c.if-room-lt-FREE.false c.table_good.ensures.defined c.if-not-table_good.false (omega (arith, c.if-pilot-gt15.false)) c.seat_of-stretch.ensures.defined c.if-stretch-eq0.false c.freed_count-free.ensures.defined }
