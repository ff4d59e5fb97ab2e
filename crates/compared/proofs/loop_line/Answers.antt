-- `compared::loop_line` meets its contract: each piece from where the one before it ended. Assumes nothing.
use Rattle.compared.proofs.loop_line.Goals as goal
use native.Mathlib.Omega.{arith}
use mathlib.Core.List.{[], ◌∷◌, ◌++◌}
use Rattle.rules.specs.Listing.{ascii}
use Rattle.listing.specs.Put.{put}
use Rattle.listing.proofs.Puts.{after}
use Rattle.listing.proofs.Lined.{begun}
use Rattle.compared.specs.CheckText.{place_text, loop_text}

pub put_text-number-requires : goal.put_text-number-requires
put_text-number-requires c = record { room = omega (arith, c.requires.room) }

pub put_place-end-requires : goal.put_place-end-requires
put_place-end-requires c = record { room = omega (arith, c.requires.room, c.put_text-number.ensures.next, c.put_text-number.auto.out) }

pub put_byte-requires : goal.put_byte-requires
put_byte-requires c = record { room = omega (arith, c.requires.room, c.put_text-number.ensures.next, c.put_text-number.auto.out, c.put_place-end.ensures.within, c.put_place-end.auto.out) }

pub returns : goal.returns
unfolding loop_text
returns c = record { the_line = begun (loop_text c.args.place) c.args.out.now (omega (arith, c.requires.room, c.put_text-number.ensures.next, c.put_place-end.ensures.within, c.put_byte.ensures.next)) (after (ascii "refused 10 ") (place_text c.args.place ++ (10 ∷ [])) (put 0 c.args.out.now) c.put_text-number.ensures.added (after (place_text c.args.place) (10 ∷ []) _ c.put_place-end.ensures.added c.put_byte.ensures.added)) }
