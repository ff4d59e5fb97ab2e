-- `seats::admit_table` meets its contract.
use Rattle.seats.proofs.admit_table.Goals as goal
use native.Mathlib.Omega.{arith}
use mathlib.Core.Path.{refl, ◌∙◌}
use Rattle.seats.proofs.First.{place_some, place_none}
use Rattle.seats.proofs.Fit.{none_at, shut_at, rest_at, long_at}

pub first_long-requires : goal.first_long-requires
first_long-requires c = record { few = c.requires.ready.few }

pub returns-in_default : goal.returns-in_default
returns-in_default c = record { defined = none_at c.args.t c.args.count c.args.wanted (omega (arith, c.well_formed.0.1.0.1, c.requires.ready.few)) refl (place_none c.first_long.ensures.defined c.in_default.not-Some) }

pub shut-requires : goal.shut-requires
shut-requires c = record { one_of = ((place_some c.first_long.ensures.defined c.in-Some.is).1, c.requires.ready.few) }

pub returns-then-long-wanted : goal.returns-then-long-wanted
returns-then-long-wanted c = record { defined = let p = place_some c.first_long.ensures.defined c.in-Some.is in c.shut.ensures.defined ∙ shut_at c.args.t c.args.count c.args.wanted (omega (arith, c.well_formed.0.1.0.1, c.requires.ready.few)) p.0 p.1 c.if-long-wanted.true }

pub overflow_add-u : goal.overflow_add-u
overflow_add-u c = record { fits = (let p = place_some c.first_long.ensures.defined c.in-Some.is in let z = c.requires.ready.safe _ p.1 in let y = long_at c.args.t c.args.count c.args.wanted _ p.0 p.1 in omega (arith, z, y)) }

pub overflow_sub-u : goal.overflow_sub-u
overflow_sub-u c = let p = place_some c.first_long.ensures.defined c.in-Some.is in long_at c.args.t c.args.count c.args.wanted _ p.0 p.1

pub returns : goal.returns
returns c = record { defined = let p = place_some c.first_long.ensures.defined c.in-Some.is in rest_at c.args.t c.args.count c.args.wanted (omega (arith, c.well_formed.0.1.0.1, c.requires.ready.few)) p.0 p.1 c.if-long-wanted.false }
