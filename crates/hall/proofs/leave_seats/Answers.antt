-- `hall::leave_seats` meets its contract.
use Rattle.hall.proofs.leave_seats.Goals as goal
use Rattle.std.proofs.lemmas.Result.{err_from_is_err_and}
use Rattle.hall.proofs.Leaving.{is_pilot, lies_within, stayed, gone}

pub clear_seat-requires : goal.clear_seat-requires
clear_seat-requires c =
    let w = lies_within (record { states = c.args.states.now; collected = c.args.collected.now; collected_values = c.args.collected_values.now; rows = c.args.rows.now; bases = c.args.bases.now; values = c.args.values.now; entries = c.args.entries.now; entry_values = c.args.entry_values.now; plain = c.args.plain.now; sources = c.args.sources.now; source_floats = c.args.source_values.now }) c.pool_rows-pool.ensures.defined c.args.t c.args.count c.args.stretches.now c.args.room c.args.pilot c.leave_answer.ensures.defined c.in_ok-left.was in
    record { a_pilot = is_pilot (record { states = c.args.states.now; collected = c.args.collected.now; collected_values = c.args.collected_values.now; rows = c.args.rows.now; bases = c.args.bases.now; values = c.args.values.now; entries = c.args.entries.now; entry_values = c.args.entry_values.now; plain = c.args.plain.now; sources = c.args.sources.now; source_floats = c.args.source_values.now }) c.pool_rows-pool.ensures.defined c.args.t c.args.count c.args.stretches.now c.args.room c.args.pilot c.leave_answer.ensures.defined c.in_ok-left.was; collected = w.collected; collected_values = w.collected_values; rows = w.rows; bases = w.bases; values = w.values; entries = w.entries; entry_values = w.entry_values; plain = w.plain; sources = w.sources; source_values = w.source_floats }

pub bounds-stretches-p : goal.bounds-stretches-p
bounds-stretches-p c = is_pilot (record { states = c.args.states.now; collected = c.args.collected.now; collected_values = c.args.collected_values.now; rows = c.args.rows.now; bases = c.args.bases.now; values = c.args.values.now; entries = c.args.entries.now; entry_values = c.args.entry_values.now; plain = c.args.plain.now; sources = c.args.sources.now; source_floats = c.args.source_values.now }) c.pool_rows-pool.ensures.defined c.args.t c.args.count c.args.stretches.now c.args.room c.args.pilot c.leave_answer.ensures.defined c.in_ok-left.was

pub returns-in_err-left : goal.returns-in_err-left
returns-in_err-left c = let p = err_from_is_err_and c.from_residual.result c.from_residual.ensures.1 in record { left = rw (p.1, p.2, ← c.in_err-left.was) (stayed (record { states = c.args.states.now; collected = c.args.collected.now; collected_values = c.args.collected_values.now; rows = c.args.rows.now; bases = c.args.bases.now; values = c.args.values.now; entries = c.args.entries.now; entry_values = c.args.entry_values.now; plain = c.args.plain.now; sources = c.args.sources.now; source_floats = c.args.source_values.now }) c.pool_rows-pool.ensures.defined c.args.t c.args.count c.args.stretches.now c.args.room c.args.pilot c.leave_answer.ensures.defined c.in_err-left.was c.told-stretches) }

pub returns : goal.returns
returns c = record { left = gone (record { states = c.args.states.now; collected = c.args.collected.now; collected_values = c.args.collected_values.now; rows = c.args.rows.now; bases = c.args.bases.now; values = c.args.values.now; entries = c.args.entries.now; entry_values = c.args.entry_values.now; plain = c.args.plain.now; sources = c.args.sources.now; source_floats = c.args.source_values.now }) c.pool_rows-pool.ensures.defined c.args.t c.args.count c.args.stretches.now c.args.room c.args.pilot c.leave_answer.ensures.defined c.in_ok-left.was c.told-stretches c.clear_seat.ensures.cleared }
