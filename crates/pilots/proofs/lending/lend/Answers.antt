-- `lending::lend` meets its contract. Assumes nothing.
use Rattle.pilots.proofs.lending.lend.Goals as goal
use Rattle.std.proofs.lemmas.Result.{err_from_is_err_and}
use Rattle.rules.proofs.Pools.{is_pilot}
use Rattle.pilots.proofs.Lends.{lends_nothing, no_place, lends_parts, lent-parts}

pub parts_of-requires : goal.parts_of-requires
parts_of-requires c = record { a_pilot = is_pilot _ _ _ (no_place _ _ _ c.rooms_of.ensures.defined c.pool.ensures.defined c.in_ok-pool.was) }

pub returns-in_err-pool : goal.returns-in_err-pool
returns-in_err-pool c = let p = err_from_is_err_and c.from_residual.result c.from_residual.ensures.1 in record { defined = rw (p.1, p.2) (lends_nothing _ _ _ c.rooms_of.ensures.defined c.pool.ensures.defined c.in_err-pool.was); inside = rw p.1 tt }

pub returns : goal.returns
returns c = record { defined = lends_parts _ _ _ c.rooms_of.ensures.defined c.pool.ensures.defined c.in_ok-pool.was c.parts_of.ensures.defined; inside = lent-parts _ _ _ (no_place _ _ _ c.rooms_of.ensures.defined c.pool.ensures.defined c.in_ok-pool.was) c.parts_of.ensures.defined }
