-- `fields::put_doubled` meets its contract.
use Rattle.csv_text.proofs.fields.put_doubled.Goals as goal
use native.Mathlib.Omega.{arith}
use Rattle.csv_text.proofs.Special.{doubled_none, doubled_long, doubled-more, doubled-all}

pub loop-b-init : goal.loop-b-init
loop-b-init c = doubled_none c.args.text.now c.args.at c.args.out.now

pub put_twice-end-requires : goal.put_twice-end-requires
put_twice-end-requires c = record { room = omega (arith, c.requires.room, c.loop-b-test.true, c.loop-b.invariant.inside, doubled_long c.args.text.now c.args.at c.args.out.now c.loop-b.invariant) }

pub loop-b-preserved : goal.loop-b-preserved
loop-b-preserved c = doubled-more c.args.text.now c.args.at c.args.out.now c.loop-b.invariant 0 c.loop-b-test.true c.put_twice-end.ensures.within c.put_twice-end.ensures.added

pub shape_of-out : goal.shape_of-out
shape_of-out c = doubled_long c.args.text.now c.args.at c.args.out.now c.loop-b.invariant

pub returns : goal.returns
returns c = let both = doubled-all c.args.text.now c.args.at c.args.out.now c.loop-b.invariant c.loop-b-test.false in record { added = both.0; within = both.1 }
