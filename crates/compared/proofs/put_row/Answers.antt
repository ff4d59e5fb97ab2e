-- `compared::put_row` meets its contract: a row's fields, or that there is none. Assumes nothing.
use Rattle.compared.proofs.put_row.Goals as goal
use native.Mathlib.Omega.{arith}
use mathlib.Core.Path.{ap}
use mir.Syntax.{w32}
use mir.Val.{to_z}
use Rattle.listing.proofs.Puts.{renamed}
use Rattle.compared.proofs.Saying.{row_inside, run_there, run_none}

pub offset_bounds-rows-i : goal.offset_bounds-rows-i
offset_bounds-rows-i c = omega (arith, c.requires.counted.0, c.requires.counted.1, c.well_formed, row_inside c.args.number c.args.n c.args.place c.if-number-i.true)

pub bounds-rows-i : goal.bounds-rows-i
bounds-rows-i c = omega (arith, c.requires.counted.0, c.requires.counted.1, c.well_formed, row_inside c.args.number c.args.n c.args.place c.if-number-i.true)

pub offset_bounds-values-i : goal.offset_bounds-values-i
offset_bounds-values-i c = omega (arith, c.requires.counted.0, c.requires.counted.1, c.well_formed, row_inside c.args.number c.args.n c.args.place c.if-number-i.true)

pub bounds-values-i : goal.bounds-values-i
bounds-values-i c = omega (arith, c.requires.counted.0, c.requires.counted.1, c.well_formed, row_inside c.args.number c.args.n c.args.place c.if-number-i.true)

pub put_fields-requires : goal.put_fields-requires
put_fields-requires c = record { room = omega (arith, c.requires.room) }

pub returns-then-number-i : goal.returns-then-number-i
returns-then-number-i c = record {
  added = λ o p t. renamed _ (run_there c.args.place _ c.if-number-i.true (ap (to_z w32) c.signed.ensures.and_back) c.f64_to_bits_with_nan-bits.ensures o t) c.put_fields.ensures.added;
  within = c.put_fields.ensures.within;
}

pub put_text-requires : goal.put_text-requires
put_text-requires c = record { room = omega (arith, c.requires.room) }

pub returns : goal.returns
returns c = record {
  added = λ o p t. renamed _ (run_none c.args.place c.if-number-i.false o t) c.put_text.ensures.added;
  within = omega (arith, c.put_text.ensures.next);
}
