-- `fields::put_record` meets its contract: each piece from where the one before it ended. Assumes nothing.
use Rattle.csv_text.proofs.fields.put_record.Goals as goal
use native.Mathlib.Omega.{arith}
use mathlib.Core.Path.{◌∙◌}
use mathlib.Core.List.{[], ◌∷◌}
use mir.Syntax.{w32}
use mir.Val.{to_z, of_z}
use mir.ValLaws.{to_z-of_z}
use Rattle.rules.specs.Number.{hundredths_of}
use Rattle.rules.specs.Listing.{natural, integer, decimals}
use Rattle.listing.specs.Put.{put}
use Rattle.listing.proofs.Puts.{after, renamed}
use Rattle.csv_text.specs.Csv.{field}
use Rattle.csv_text.proofs.Plain.{ended, labelled, numbered, row_said}

pub put_u32-first-requires : goal.put_u32-first-requires
put_u32-first-requires c = record { room = omega (arith, c.requires.room) }

pub put_byte-second-requires : goal.put_byte-second-requires
put_byte-second-requires c = record { room = omega (arith, c.requires.room, c.put_u32-first.ensures.within, c.put_u32-first.auto.out) }

pub put_integer-after_id-requires : goal.put_integer-after_id-requires
put_integer-after_id-requires c = record { room = omega (arith, c.requires.room, c.put_u32-first.ensures.within, c.put_u32-first.auto.out, c.put_byte-second.ensures.next, c.put_byte-second.auto.out) }

pub put_byte-third-requires : goal.put_byte-third-requires
put_byte-third-requires c = record { room = omega (arith, c.requires.room, c.put_u32-first.ensures.within, c.put_u32-first.auto.out, c.put_byte-second.ensures.next, c.put_byte-second.auto.out, c.put_integer-after_id.ensures.within, c.put_integer-after_id.auto.out) }

pub put_field-after_label-requires : goal.put_field-after_label-requires
put_field-after_label-requires c = record { room = omega (arith, c.requires.room, c.requires.short, c.put_u32-first.ensures.within, c.put_u32-first.auto.out, c.put_byte-second.ensures.next, c.put_byte-second.auto.out, c.put_integer-after_id.ensures.within, c.put_integer-after_id.auto.out, c.put_byte-third.ensures.next, c.put_byte-third.auto.out) }

pub put_byte-fourth-requires : goal.put_byte-fourth-requires
put_byte-fourth-requires c = record { room = omega (arith, c.requires.room, c.requires.short, c.put_u32-first.ensures.within, c.put_u32-first.auto.out, c.put_byte-second.ensures.next, c.put_byte-second.auto.out, c.put_integer-after_id.ensures.within, c.put_integer-after_id.auto.out, c.put_byte-third.ensures.next, c.put_byte-third.auto.out, c.put_field-after_label.ensures.within, c.put_field-after_label.auto.out) }

pub put_value-after_value-requires : goal.put_value-after_value-requires
put_value-after_value-requires c = record { room = omega (arith, c.requires.room, c.requires.short, c.put_u32-first.ensures.within, c.put_u32-first.auto.out, c.put_byte-second.ensures.next, c.put_byte-second.auto.out, c.put_integer-after_id.ensures.within, c.put_integer-after_id.auto.out, c.put_byte-third.ensures.next, c.put_byte-third.auto.out, c.put_field-after_label.ensures.within, c.put_field-after_label.auto.out, c.put_byte-fourth.ensures.next, c.put_byte-fourth.auto.out) }

pub put_byte-ending-requires : goal.put_byte-ending-requires
put_byte-ending-requires c = record { room = omega (arith, c.requires.room, c.requires.short, c.put_u32-first.ensures.within, c.put_u32-first.auto.out, c.put_byte-second.ensures.next, c.put_byte-second.auto.out, c.put_integer-after_id.ensures.within, c.put_integer-after_id.auto.out, c.put_byte-third.ensures.next, c.put_byte-third.auto.out, c.put_field-after_label.ensures.within, c.put_field-after_label.auto.out, c.put_byte-fourth.ensures.next, c.put_byte-fourth.auto.out, c.put_value-after_value.ensures.within, c.put_value-after_value.auto.out) }

pub put_byte-requires : goal.put_byte-requires
put_byte-requires c = record { room = omega (arith, c.requires.room, c.requires.short, c.put_u32-first.ensures.within, c.put_u32-first.auto.out, c.put_byte-second.ensures.next, c.put_byte-second.auto.out, c.put_integer-after_id.ensures.within, c.put_integer-after_id.auto.out, c.put_byte-third.ensures.next, c.put_byte-third.auto.out, c.put_field-after_label.ensures.within, c.put_field-after_label.auto.out, c.put_byte-fourth.ensures.next, c.put_byte-fourth.auto.out, c.put_value-after_value.ensures.within, c.put_value-after_value.auto.out, c.put_byte-ending.ensures.next, c.put_byte-ending.auto.out) }

pub shape_of-out : goal.shape_of-out
shape_of-out c = c.put_byte.auto.out ∙ c.put_byte-ending.auto.out ∙ c.put_value-after_value.auto.out ∙ c.put_byte-fourth.auto.out ∙ c.put_field-after_label.auto.out ∙ c.put_byte-third.auto.out ∙ c.put_integer-after_id.auto.out ∙ c.put_byte-second.auto.out ∙ c.put_u32-first.auto.out

pub returns : goal.returns
returns c = record {
  added = renamed (put 0 c.args.out.now) (row_said c.args.object c.args.label.now (hundredths_of c.args.value) (to_z-of_z w32 c.args.id c.ranges.id)) (after (natural c.args.object) (44 ∷ numbered (to_z w32 (of_z w32 c.args.id)) c.args.label.now (hundredths_of c.args.value)) (put 0 c.args.out.now) c.put_u32-first.ensures.added (after (44 ∷ []) (numbered (to_z w32 (of_z w32 c.args.id)) c.args.label.now (hundredths_of c.args.value)) _ c.put_byte-second.ensures.added (after (integer (to_z w32 (of_z w32 c.args.id))) (44 ∷ labelled c.args.label.now (hundredths_of c.args.value)) _ c.put_integer-after_id.ensures.added (after (44 ∷ []) (labelled c.args.label.now (hundredths_of c.args.value)) _ c.put_byte-third.ensures.added (after (field c.args.label.now) (44 ∷ ended (hundredths_of c.args.value)) _ c.put_field-after_label.ensures.added (after (44 ∷ []) (ended (hundredths_of c.args.value)) _ c.put_byte-fourth.ensures.added (after (decimals (hundredths_of c.args.value)) (13 ∷ 10 ∷ []) _ c.put_value-after_value.ensures.added (after (13 ∷ []) (10 ∷ []) _ c.put_byte-ending.ensures.added c.put_byte.ensures.added))))))));
  within = omega (arith, c.requires.short, c.put_u32-first.ensures.within, c.put_byte-second.ensures.next, c.put_integer-after_id.ensures.within, c.put_byte-third.ensures.next, c.put_field-after_label.ensures.within, c.put_byte-fourth.ensures.next, c.put_value-after_value.ensures.within, c.put_byte-ending.ensures.next, c.put_byte.ensures.next);
}
