-- `listing::rows_listed` meets its contract: what stands in front is what was printed so far. Assumes nothing.
use Rattle.listing.proofs.rows_listed.Goals as goal
use native.Mathlib.Omega.{arith}
use mathlib.Core.Path.{ap, ◌∙◌}
use mir.Syntax.{w32}
use mir.Val.{to_z}
use Rattle.listing.proofs.Lined.{head_lined, line_room, one_more, all_lined}

pub head-end-requires : goal.head-end-requires
head-end-requires c = record { room = omega (arith, c.requires.room) }

pub loop-next-init : goal.loop-next-init
loop-next-init c = head_lined c.args.n c.args.rows.now c.args.values.now c.args.out.now (omega (arith, c.requires.room)) c.head-end.ensures.within c.head-end.ensures.added

pub line-end-requires : goal.line-end-requires
line-end-requires c = record { room = line_room c.args.n c.args.rows.now c.args.values.now (omega (arith, c.requires.room, c.head-end.auto.out)) c.loop-next.invariant c.loop-next-test.true }

pub loop-next-preserved : goal.loop-next-preserved
loop-next-preserved c = one_more c.args.n c.args.rows.now c.args.values.now (omega (arith, c.requires.room, c.head-end.auto.out)) c.loop-next.invariant _ _ c.loop-next-test.true c.line-end.auto.out c.line-end.ensures.within (ap (to_z w32) c.signed.ensures.and_back) c.line-end.ensures.added

pub shape_of-out : goal.shape_of-out
shape_of-out c = c.loop-next.invariant.even ∙ c.head-end.auto.out

pub returns : goal.returns
returns c = record { the_lines = all_lined c.args.n c.args.rows.now c.args.values.now (omega (arith, c.requires.room, c.head-end.auto.out)) c.loop-next.invariant c.loop-next-test.false }
