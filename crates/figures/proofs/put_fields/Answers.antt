-- `figures::put_fields` meets its contract: each piece from where the one before it ended. Assumes nothing.
use Rattle.figures.proofs.put_fields.Goals as goal
use native.Mathlib.Omega.{arith}
use mathlib.Core.List.{[], ◌∷◌}
use mir.Syntax.{w32}
use mir.Val.{to_z, of_z}
use mir.ValLaws.{to_z-of_z}
use Rattle.rules.specs.Listing.{natural, integer}
use Rattle.listing.specs.Put.{put}
use Rattle.listing.proofs.Puts.{after, renamed}
use Rattle.figures.specs.Figures.{bits_text}
use Rattle.figures.proofs.Figured.{id, fields_are}

pub put_u32-space-requires : goal.put_u32-space-requires
put_u32-space-requires c = record { room = omega (arith, c.requires.room) }

pub put_byte-attribute-requires : goal.put_byte-attribute-requires
put_byte-attribute-requires c = record { room = omega (arith, c.requires.room, c.put_u32-space.ensures.within, c.put_u32-space.auto.out) }

pub put_integer-space-requires : goal.put_integer-space-requires
put_integer-space-requires c = record { room = omega (arith, c.requires.room, c.put_u32-space.ensures.within, c.put_u32-space.auto.out, c.put_byte-attribute.ensures.next, c.put_byte-attribute.auto.out) }

pub put_byte-number-requires : goal.put_byte-number-requires
put_byte-number-requires c = record { room = omega (arith, c.requires.room, c.put_u32-space.ensures.within, c.put_u32-space.auto.out, c.put_byte-attribute.ensures.next, c.put_byte-attribute.auto.out, c.put_integer-space.ensures.within, c.put_integer-space.auto.out) }

pub put_bits-requires : goal.put_bits-requires
put_bits-requires c = record { room = omega (arith, c.requires.room, c.put_u32-space.ensures.within, c.put_u32-space.auto.out, c.put_byte-attribute.ensures.next, c.put_byte-attribute.auto.out, c.put_integer-space.ensures.within, c.put_integer-space.auto.out, c.put_byte-number.ensures.next, c.put_byte-number.auto.out) }

pub returns : goal.returns
returns c = record {
  added = renamed _ (fields_are c.args.object c.args.bits (to_z-of_z w32 c.args.id c.ranges.id)) (after (natural c.args.object) (32 ∷ id (to_z w32 (of_z w32 c.args.id)) c.args.bits) (put c.args.at c.args.out.now) c.put_u32-space.ensures.added (after (32 ∷ []) (id (to_z w32 (of_z w32 c.args.id)) c.args.bits) _ c.put_byte-attribute.ensures.added (after (integer (to_z w32 (of_z w32 c.args.id))) (32 ∷ bits_text c.args.bits) _ c.put_integer-space.ensures.added (after (32 ∷ []) (bits_text c.args.bits) _ c.put_byte-number.ensures.added c.put_bits.ensures.added))));
  within = omega (arith, c.put_u32-space.ensures.within, c.put_byte-attribute.ensures.next, c.put_integer-space.ensures.within, c.put_byte-number.ensures.next, c.put_bits.ensures.within);
}
