-- `figures::figure` meets its contract: the fields, and the line's end. Assumes nothing.
use Rattle.figures.proofs.figure.Goals as goal
use native.Mathlib.Omega.{arith}
use mathlib.Core.Path.{sym, ◌∙◌}
use mathlib.Core.List.{[], ◌∷◌}
use mir.Syntax.{w32}
use mir.Val.{to_z, of_z}
use mir.ValLaws.{to_z-of_z}
use Rattle.listing.specs.Put.{put}
use Rattle.listing.proofs.Puts.{after, renamed}
use Rattle.figures.specs.Figures.{fields}
use Rattle.figures.proofs.Figured.{figure-is}

pub put_fields-line_end-requires : goal.put_fields-line_end-requires
put_fields-line_end-requires c = record { room = omega (arith, c.requires.room) }

pub put_byte-requires : goal.put_byte-requires
put_byte-requires c = record { room = omega (arith, c.requires.room, c.put_fields-line_end.ensures.within, c.put_fields-line_end.auto.out) }

pub returns : goal.returns
returns c = record {
  added = λ row o i. renamed _ (figure-is row c.args.value o (i ∙ sym (to_z-of_z w32 c.args.id c.ranges.id)) c.f64_to_bits_with_nan-bits.ensures) (after (fields c.args.object (to_z w32 (of_z w32 c.args.id)) c.f64_to_bits_with_nan-bits.result) (10 ∷ []) (put c.args.at c.args.out.now) c.put_fields-line_end.ensures.added c.put_byte.ensures.added);
  within = omega (arith, c.put_fields-line_end.ensures.within, c.put_byte.ensures.next);
}
