-- `figures::rows_figured` meets its contract: what stands in front are the lines so far. Assumes nothing.
use Rattle.figures.proofs.rows_figured.Goals as goal
use mathlib.Core.Path.{ap}
use mir.Syntax.{w32}
use mir.Val.{to_z}
use Rattle.figures.proofs.Figured.{figured-start, figure_room, one_more, all-figured}

pub loop-next-init : goal.loop-next-init
loop-next-init c = figured-start c.args.n c.args.rows.now c.args.values.now c.args.out.now

pub figure-end-requires : goal.figure-end-requires
figure-end-requires c = record { room = figure_room c.args.n c.args.rows.now c.args.values.now c.requires.room c.loop-next.invariant c.loop-next-test.true }

pub loop-next-preserved : goal.loop-next-preserved
loop-next-preserved c = one_more c.args.n c.args.rows.now c.args.values.now c.requires.room c.loop-next.invariant _ _ c.loop-next-test.true c.figure-end.auto.out c.figure-end.ensures.within (ap (to_z w32) c.signed.ensures.and_back) c.figure-end.ensures.added

pub shape_of-out : goal.shape_of-out
shape_of-out c = c.loop-next.invariant.even

pub returns : goal.returns
returns c = record { the_lines = all-figured c.args.n c.args.rows.now c.args.values.now c.requires.room c.loop-next.invariant c.loop-next-test.false }
