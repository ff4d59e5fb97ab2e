-- `listing::put_rounded` meets its contract. Assumes nothing.
use Rattle.listing.proofs.put_rounded.Goals as goal
use Prim.Native.Nat.{◌+◌, ◌/◌, ◌%◌}
use mathlib.Core.List.{[], ◌∷◌}
use Rattle.rules.specs.Listing.{natural, decimals}
use Rattle.listing.specs.Put.{put}
use Rattle.listing.proofs.Puts.{after, room, room_after, room_byte}
use Rattle.listing.proofs.Decimals.{hundredth, tenths, point}

pub put_natural-point-requires : goal.put_natural-point-requires
unfolding decimals
put_natural-point-requires c = record { room = room (natural (c.args.count / 100)) (point c.args.count) c.args.at c.args.out.now c.requires.room }

pub put_byte-tenths-requires : goal.put_byte-tenths-requires
unfolding decimals
put_byte-tenths-requires c = record { room = room_byte 46 (tenths c.args.count) _ _ (room_after (natural (c.args.count / 100)) (point c.args.count) c.args.at c.args.out.now c.requires.room c.put_natural-point.ensures.added) }

pub put_byte-last-requires : goal.put_byte-last-requires
unfolding decimals
put_byte-last-requires c = record { room = room_byte (48 + c.args.count / 10 % 10) (hundredth c.args.count) _ _ (room_after (46 ∷ []) (tenths c.args.count) _ _ (room_after (natural (c.args.count / 100)) (point c.args.count) c.args.at c.args.out.now c.requires.room c.put_natural-point.ensures.added) c.put_byte-tenths.ensures.added) }

pub put_byte-requires : goal.put_byte-requires
unfolding decimals
put_byte-requires c = record { room = room_byte (48 + c.args.count % 10) [] _ _ (room_after ((48 + c.args.count / 10 % 10) ∷ []) (hundredth c.args.count) _ _ (room_after (46 ∷ []) (tenths c.args.count) _ _ (room_after (natural (c.args.count / 100)) (point c.args.count) c.args.at c.args.out.now c.requires.room c.put_natural-point.ensures.added) c.put_byte-tenths.ensures.added) c.put_byte-last.ensures.added) }

pub returns : goal.returns
unfolding decimals
returns c = record { added = after (natural (c.args.count / 100)) (point c.args.count) (put c.args.at c.args.out.now) c.put_natural-point.ensures.added (after (46 ∷ []) (tenths c.args.count) _ c.put_byte-tenths.ensures.added (after ((48 + c.args.count / 10 % 10) ∷ []) (hundredth c.args.count) _ c.put_byte-last.ensures.added c.put_byte.ensures.added)) }
