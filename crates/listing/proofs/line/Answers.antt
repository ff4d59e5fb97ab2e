-- `listing::line` meets its contract: each piece from where the one before it ended. Assumes nothing.
use Rattle.listing.proofs.line.Goals as goal
use native.Mathlib.Omega.{arith}
use mathlib.Core.Path.{refl, sym, ◌∙◌}
use mathlib.Core.List.{[], ◌∷◌}
use mir.Syntax.{w32}
use mir.Val.{to_z, of_z}
use mir.ValLaws.{to_z-of_z}
use Rattle.rules.specs.Number.{hundredths_of}
use Rattle.rules.specs.Listing.{natural, integer, decimals}
use Rattle.listing.specs.Put.{put}
use Rattle.listing.proofs.Puts.{after, renamed}
use Rattle.listing.proofs.Texts.{value, id, line-is}

pub put_u32-space-requires : goal.put_u32-space-requires
put_u32-space-requires c = record { room = omega (arith, c.requires.room) }

pub put_byte-attribute-requires : goal.put_byte-attribute-requires
put_byte-attribute-requires c = record { room = omega (arith, c.requires.room, c.put_u32-space.ensures.within, c.put_u32-space.auto.out) }

pub put_integer-space-requires : goal.put_integer-space-requires
put_integer-space-requires c = record { room = omega (arith, c.requires.room, c.put_u32-space.ensures.within, c.put_u32-space.auto.out, c.put_byte-attribute.ensures.next, c.put_byte-attribute.auto.out) }

pub put_byte-number-requires : goal.put_byte-number-requires
put_byte-number-requires c = record { room = omega (arith, c.requires.room, c.put_u32-space.ensures.within, c.put_u32-space.auto.out, c.put_byte-attribute.ensures.next, c.put_byte-attribute.auto.out, c.put_integer-space.ensures.within, c.put_integer-space.auto.out) }

pub put_value-line_end-requires : goal.put_value-line_end-requires
put_value-line_end-requires c = record { room = omega (arith, c.requires.room, c.put_u32-space.ensures.within, c.put_u32-space.auto.out, c.put_byte-attribute.ensures.next, c.put_byte-attribute.auto.out, c.put_integer-space.ensures.within, c.put_integer-space.auto.out, c.put_byte-number.ensures.next, c.put_byte-number.auto.out) }

pub put_byte-requires : goal.put_byte-requires
put_byte-requires c = record { room = omega (arith, c.requires.room, c.put_u32-space.ensures.within, c.put_u32-space.auto.out, c.put_byte-attribute.ensures.next, c.put_byte-attribute.auto.out, c.put_integer-space.ensures.within, c.put_integer-space.auto.out, c.put_byte-number.ensures.next, c.put_byte-number.auto.out, c.put_value-line_end.ensures.within, c.put_value-line_end.auto.out) }

pub returns : goal.returns
returns c = record {
  added = λ row o i. renamed _ (line-is row c.args.value o (i ∙ sym (to_z-of_z w32 c.args.id c.ranges.id)) refl) (after (natural c.args.object) (32 ∷ id (to_z w32 (of_z w32 c.args.id)) (hundredths_of c.args.value)) (put c.args.at c.args.out.now) c.put_u32-space.ensures.added (after (32 ∷ []) (id (to_z w32 (of_z w32 c.args.id)) (hundredths_of c.args.value)) _ c.put_byte-attribute.ensures.added (after (integer (to_z w32 (of_z w32 c.args.id))) (32 ∷ value (hundredths_of c.args.value)) _ c.put_integer-space.ensures.added (after (32 ∷ []) (value (hundredths_of c.args.value)) _ c.put_byte-number.ensures.added (after (decimals (hundredths_of c.args.value)) (10 ∷ []) _ c.put_value-line_end.ensures.added c.put_byte.ensures.added)))));
  within = omega (arith, c.put_u32-space.ensures.within, c.put_byte-attribute.ensures.next, c.put_integer-space.ensures.within, c.put_byte-number.ensures.next, c.put_value-line_end.ensures.within, c.put_byte.ensures.next);
}
