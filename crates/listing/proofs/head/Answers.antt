-- `listing::head` meets its contract: each piece from where the one before it ended. Assumes nothing.
use Rattle.listing.proofs.head.Goals as goal
use native.Mathlib.Omega.{arith}
use mathlib.Core.List.{[], ◌∷◌}
use Rattle.rules.specs.Listing.{natural}
use Rattle.listing.specs.Put.{put}
use Rattle.listing.specs.Pieces.{head_of}
use Rattle.listing.proofs.Puts.{after}
use Rattle.listing.proofs.Texts.{rows_word, ended}

pub put_text-count-requires : goal.put_text-count-requires
put_text-count-requires c = record { room = omega (arith, c.requires.room) }

pub put_u64-end-requires : goal.put_u64-end-requires
put_u64-end-requires c = record { room = omega (arith, c.requires.room, c.put_text-count.ensures.next, c.put_text-count.auto.out) }

pub put_byte-requires : goal.put_byte-requires
put_byte-requires c = record { room = omega (arith, c.requires.room, c.put_text-count.ensures.next, c.put_text-count.auto.out, c.put_u64-end.ensures.within, c.put_u64-end.auto.out) }

pub returns : goal.returns
unfolding head_of
returns c = record {
  added = after rows_word (ended c.args.rows) (put 0 c.args.out.now) c.put_text-count.ensures.added (after (natural c.args.rows) (10 ∷ []) _ c.put_u64-end.ensures.added c.put_byte.ensures.added);
  within = omega (arith, c.put_text-count.ensures.next, c.put_u64-end.ensures.within, c.put_byte.ensures.next);
}
