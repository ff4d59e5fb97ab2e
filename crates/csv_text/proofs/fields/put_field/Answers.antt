-- `fields::put_field` meets its contract. Assumes nothing.
use Rattle.csv_text.proofs.fields.put_field.Goals as goal
use native.Mathlib.Omega.{arith}
use mathlib.Core.Path.{sym, ◌∙◌}
use mathlib.Core.List.{[], ◌∷◌, ◌++◌}
use Rattle.listing.specs.Put.{put}
use Rattle.listing.proofs.Puts.{after, renamed}
use Rattle.csv_text.specs.Csv.{doubled}
use Rattle.csv_text.proofs.Special.{quoted_field, own_field}

pub put_byte-next-requires : goal.put_byte-next-requires
put_byte-next-requires c = record { room = omega (arith, c.requires.room) }

pub put_doubled-end-requires : goal.put_doubled-end-requires
put_doubled-end-requires c = record { room = omega (arith, c.requires.room, c.put_byte-next.ensures.next, c.put_byte-next.auto.out) }

pub put_byte-requires : goal.put_byte-requires
put_byte-requires c = record { room = omega (arith, c.requires.room, c.put_byte-next.ensures.next, c.put_byte-next.auto.out, c.put_doubled-end.ensures.within, c.put_doubled-end.auto.out) }

pub returns-then-any_special : goal.returns-then-any_special
returns-then-any_special c = record {
  added = renamed (put c.args.at c.args.out.now) (quoted_field c.args.text.now (sym c.any_special.ensures.defined ∙ c.if-any_special.true)) (after (34 ∷ []) (doubled c.args.text.now ++ (34 ∷ [])) (put c.args.at c.args.out.now) c.put_byte-next.ensures.added (after (doubled c.args.text.now) (34 ∷ []) _ c.put_doubled-end.ensures.added c.put_byte.ensures.added));
  within = omega (arith, c.put_byte-next.ensures.next, c.put_doubled-end.ensures.within, c.put_byte.ensures.next);
}

pub put_text-requires : goal.put_text-requires
put_text-requires c = record { room = omega (arith, c.requires.room) }

pub returns : goal.returns
returns c = record {
  added = renamed (put c.args.at c.args.out.now) (own_field c.args.text.now (sym c.any_special.ensures.defined ∙ c.if-any_special.false)) c.put_text.ensures.added;
  within = omega (arith, c.put_text.ensures.next);
}
