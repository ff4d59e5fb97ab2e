-- `fields::put_twice` meets its contract. Assumes nothing.
use Rattle.csv_text.proofs.fields.put_twice.Goals as goal
use native.Mathlib.Omega.{arith}
use mathlib.Core.List.{[], ◌∷◌}
use Rattle.listing.specs.Put.{put}
use Rattle.listing.proofs.Puts.{after, renamed}
use Rattle.csv_text.proofs.Classes.{stands_once, stands_twice}

pub put_byte-next-requires : goal.put_byte-next-requires
put_byte-next-requires c = record { room = omega (arith, c.requires.room) }

pub put_byte-requires : goal.put_byte-requires
put_byte-requires c = record { room = omega (arith, c.requires.room, c.put_byte-next.ensures.next, c.put_byte-next.auto.out) }

pub returns-then-b-eq-QUOTE : goal.returns-then-b-eq-QUOTE
returns-then-b-eq-QUOTE c = record {
  added = renamed (put c.args.at c.args.out.now) (stands_twice c.args.b c.if-b-eq-QUOTE.true) (after (c.args.b ∷ []) (c.args.b ∷ []) (put c.args.at c.args.out.now) c.put_byte-next.ensures.added c.put_byte.ensures.added);
  within = omega (arith, c.put_byte-next.ensures.next, c.put_byte.ensures.next);
}

pub returns : goal.returns
returns c = record {
  added = renamed (put c.args.at c.args.out.now) (stands_once c.args.b c.if-b-eq-QUOTE.false) c.put_byte-next.ensures.added;
  within = omega (arith, c.put_byte-next.ensures.next);
}
