-- `listing::put_hundredths` meets its contract. Assumes nothing.
use Rattle.rules.specs.Number.{rounded}
use Rattle.listing.proofs.put_hundredths.Goals as goal
use mathlib.Core.Bool.{false}
use mathlib.Core.List.{[]}
use Rattle.rules.specs.Listing.{minus_if, decimals}
use Rattle.listing.specs.Put.{put}
use Rattle.listing.proofs.Puts.{after, renamed, room_renamed, room, room_after, room_byte}
use Rattle.listing.proofs.Decimals.{star_text, rounded_text}

pub put_byte-requires : goal.put_byte-requires
put_byte-requires c = record { room = room_byte 42 [] _ _ (room_renamed _ _ (star_text c.in-None.is) c.requires.room) }

pub put_minus-next-requires : goal.put_minus-next-requires
put_minus-next-requires c = record { room = room (minus_if c.in-Some.h.minus) (decimals (rounded false c.in-Some.h.count)) c.args.at c.args.out.now (room_renamed _ _ (rounded_text _ _ c.in-Some.is) c.requires.room) }

pub put_rounded-requires : goal.put_rounded-requires
put_rounded-requires c = record { room = room_after (minus_if c.in-Some.h.minus) (decimals (rounded false c.in-Some.h.count)) c.args.at c.args.out.now (room_renamed _ _ (rounded_text _ _ c.in-Some.is) c.requires.room) c.put_minus-next.ensures.added }

pub returns-in-None : goal.returns-in-None
returns-in-None c = record { added = renamed _ (star_text c.in-None.is) c.put_byte.ensures.added }

pub returns-in-Some : goal.returns-in-Some
returns-in-Some c = record { added = renamed _ (rounded_text _ _ c.in-Some.is) (after (minus_if c.in-Some.h.minus) (decimals (rounded false c.in-Some.h.count)) (put c.args.at c.args.out.now) c.put_minus-next.ensures.added c.put_rounded.ensures.added) }
