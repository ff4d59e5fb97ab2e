-- `listing::put_minus` meets its contract. Assumes nothing.
use Rattle.listing.proofs.put_minus.Goals as goal
use mathlib.Core.Path.{refl, sym, ap}
use mathlib.Core.List.{[]}
use Rattle.rules.specs.Listing.{minus_if}
use Rattle.listing.specs.Put.{put, puts}
use Rattle.listing.proofs.Puts.{renamed, room_renamed, room_byte}

pub put_byte-requires : goal.put_byte-requires
put_byte-requires c = record { room = room_byte 45 [] _ _ (room_renamed _ _ (ap minus_if (sym c.if-minus.true)) c.requires.room) }

pub returns-then-minus : goal.returns-then-minus
returns-then-minus c = record { added = renamed _ (ap minus_if (sym c.if-minus.true)) c.put_byte.ensures.added }

pub returns : goal.returns
returns c = record { added = renamed (put c.args.at c.args.out.now) (ap minus_if (sym c.if-minus.false)) (unfold puts in refl) }
