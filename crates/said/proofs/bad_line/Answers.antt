-- `said::bad_line` meets its contract: each piece from where the one before it ended. Assumes nothing.
use Rattle.said.proofs.bad_line.Goals as goal
use native.Mathlib.Omega.{arith}
use mathlib.Core.List.{◌++◌}
use Rattle.rules.specs.Listing.{natural}
use Rattle.listing.specs.Put.{put}
use Rattle.listing.proofs.Puts.{after}
use Rattle.listing.proofs.Lined.{begun}
use Rattle.said.specs.Said.{bad_line}

pub put_text-number-requires : goal.put_text-number-requires
put_text-number-requires c = record { room = omega (arith, c.requires.room) }

pub put_u32-end-requires : goal.put_u32-end-requires
put_u32-end-requires c = record { room = omega (arith, c.requires.room, c.put_text-number.ensures.next, c.put_text-number.auto.out) }

pub put_text-requires : goal.put_text-requires
put_text-requires c = record { room = omega (arith, c.requires.room, c.put_text-number.ensures.next, c.put_text-number.auto.out, c.put_u32-end.ensures.within, c.put_u32-end.auto.out) }

pub returns : goal.returns
unfolding bad_line
returns c = record { the_line = begun (bad_line c.args.what.now c.args.line c.args.why.now) c.args.out.now (omega (arith, c.requires.room, c.put_text-number.ensures.next, c.put_u32-end.ensures.within, c.put_text.ensures.next)) (after c.args.what.now (natural c.args.line ++ c.args.why.now) (put 0 c.args.out.now) c.put_text-number.ensures.added (after (natural c.args.line) c.args.why.now _ c.put_u32-end.ensures.added c.put_text.ensures.added)) }
