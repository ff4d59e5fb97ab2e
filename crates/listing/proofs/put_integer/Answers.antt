-- `listing::put_integer` meets its contract, by the number's 32 bits. Assumes nothing.
use Rattle.listing.proofs.put_integer.Goals as goal
use Prim.Native.Nat.{◌-◌}
use mathlib.Core.Path.{◌∙◌}
use mathlib.Core.List.{[], ◌∷◌}
use mir.Syntax.{w32}
use mir.ValLaws.{to_z-of_z}
use Rattle.rules.specs.Listing.{natural}
use Rattle.listing.specs.Put.{put}
use Rattle.listing.proofs.Puts.{after, renamed, bounded, room_renamed, room_byte, room_after}
use Rattle.listing.proofs.Integers.{integer-plain, integer-minus}
use Rattle.listing.proofs.Lengths.{integer_short, integer_room}

pub put_natural-requires : goal.put_natural-requires
put_natural-requires c = record { room = room_renamed _ _ (integer-plain _ (c.bits-pattern.ensures.and_back ∙ to_z-of_z w32 c.args.x c.ranges.x) c.if-pattern-lt2147483648.true) (integer_room c.args.x c.args.at _ c.ranges.x c.requires.room) }

pub returns-then-pattern-lt2147483648 : goal.returns-then-pattern-lt2147483648
returns-then-pattern-lt2147483648 c = let both = bounded _ c.args.at c.args.out.now (renamed _ (integer-plain _ (c.bits-pattern.ensures.and_back ∙ to_z-of_z w32 c.args.x c.ranges.x) c.if-pattern-lt2147483648.true) c.put_natural.ensures.added) 11 (integer_short c.args.x c.ranges.x) in record { added = both.0; within = both.1 }

pub put_byte-next-requires : goal.put_byte-next-requires
put_byte-next-requires c = record { room = room_byte 45 (natural (4294967296 - c.bits-pattern.result)) _ _ (room_renamed _ _ (integer-minus _ c.bits-pattern.type_inv (c.bits-pattern.ensures.and_back ∙ to_z-of_z w32 c.args.x c.ranges.x) c.if-pattern-lt2147483648.false) (integer_room c.args.x c.args.at _ c.ranges.x c.requires.room)) }

pub put_natural-requires-2 : goal.put_natural-requires-2
put_natural-requires-2 c = record { room = room_after (45 ∷ []) (natural (4294967296 - c.bits-pattern.result)) c.args.at c.args.out.now (room_renamed _ _ (integer-minus _ c.bits-pattern.type_inv (c.bits-pattern.ensures.and_back ∙ to_z-of_z w32 c.args.x c.ranges.x) c.if-pattern-lt2147483648.false) (integer_room c.args.x c.args.at _ c.ranges.x c.requires.room)) c.put_byte-next.ensures.added }

pub returns : goal.returns
returns c = let both = bounded _ c.args.at c.args.out.now (renamed _ (integer-minus _ c.bits-pattern.type_inv (c.bits-pattern.ensures.and_back ∙ to_z-of_z w32 c.args.x c.ranges.x) c.if-pattern-lt2147483648.false) (after (45 ∷ []) (natural (4294967296 - c.bits-pattern.result)) (put c.args.at c.args.out.now) c.put_byte-next.ensures.added c.put_natural-2.ensures.added)) 11 (integer_short c.args.x c.ranges.x) in record { added = both.0; within = both.1 }
