-- `compared::bad_row` meets its contract: each piece from where the one before it ended. Assumes nothing.
use Rattle.compared.proofs.bad_row.Goals as goal
use native.Mathlib.Omega.{arith}
use mathlib.Core.List.{[], ◌∷◌}
use Rattle.rules.specs.Listing.{ascii}
use Rattle.rules.specs.Outcome.{outcome}
use Rattle.listing.specs.Put.{put}
use Rattle.listing.proofs.Puts.{after}
use Rattle.listing.proofs.Lined.{begun}
use Rattle.text.specs.SheetText.{rooms}
use Rattle.compared.specs.CheckText.{place_text, listed_text, run_text, bad_row}
use Rattle.compared.proofs.Saying.{row_on, has_on, line_on, listed_on, place_on}

pub put_text-number-requires : goal.put_text-number-requires
put_text-number-requires c = record { room = omega (arith, c.requires.room) }

pub put_place-stands-requires : goal.put_place-stands-requires
put_place-stands-requires c = record { room = omega (arith, c.requires.room, c.put_text-number.ensures.next, c.put_text-number.auto.out) }

pub put_text-line-requires : goal.put_text-line-requires
put_text-line-requires c = record { room = omega (arith, c.requires.room, c.put_text-number.ensures.next, c.put_text-number.auto.out, c.put_place-stands.ensures.within, c.put_place-stands.auto.out) }

pub put_listed-gives-requires : goal.put_listed-gives-requires
put_listed-gives-requires c = record { room = omega (arith, c.requires.room, c.put_text-number.ensures.next, c.put_text-number.auto.out, c.put_place-stands.ensures.within, c.put_place-stands.auto.out, c.put_text-line.ensures.next, c.put_text-line.auto.out) }

pub put_text-row-requires : goal.put_text-row-requires
put_text-row-requires c = record { room = omega (arith, c.requires.room, c.put_text-number.ensures.next, c.put_text-number.auto.out, c.put_place-stands.ensures.within, c.put_place-stands.auto.out, c.put_text-line.ensures.next, c.put_text-line.auto.out, c.put_listed-gives.ensures.within, c.put_listed-gives.auto.out) }

pub put_run-end-requires : goal.put_run-end-requires
put_run-end-requires c = record { room = omega (arith, c.requires.room, c.put_text-number.ensures.next, c.put_text-number.auto.out, c.put_place-stands.ensures.within, c.put_place-stands.auto.out, c.put_text-line.ensures.next, c.put_text-line.auto.out, c.put_listed-gives.ensures.within, c.put_listed-gives.auto.out, c.put_text-row.ensures.next, c.put_text-row.auto.out) }

pub put_byte-requires : goal.put_byte-requires
put_byte-requires c = record { room = omega (arith, c.requires.room, c.put_text-number.ensures.next, c.put_text-number.auto.out, c.put_place-stands.ensures.within, c.put_place-stands.auto.out, c.put_text-line.ensures.next, c.put_text-line.auto.out, c.put_listed-gives.ensures.within, c.put_listed-gives.auto.out, c.put_text-row.ensures.next, c.put_text-row.auto.out, c.put_run-end.ensures.within, c.put_run-end.auto.out) }

pub returns : goal.returns
unfolding bad_row
returns c = record { the_line = begun (bad_row c.args.sheet.now c.args.listing.now c.args.place) c.args.out.now (omega (arith, c.requires.room, c.put_text-number.ensures.next, c.put_place-stands.ensures.within, c.put_text-line.ensures.next, c.put_listed-gives.ensures.within, c.put_text-row.ensures.next, c.put_run-end.ensures.within, c.put_byte.ensures.next)) (after (ascii "refused 15 ") (place_on c.args.sheet.now c.args.listing.now c.args.place) (put 0 c.args.out.now) c.put_text-number.ensures.added (after (place_text c.args.place) (listed_on c.args.sheet.now c.args.listing.now c.args.place) _ c.put_place-stands.ensures.added (after (ascii ": listed ") (line_on c.args.sheet.now c.args.listing.now c.args.place) _ c.put_text-line.ensures.added (after (listed_text c.args.listing.now c.args.place) (has_on c.args.sheet.now c.args.listing.now c.args.place) _ c.put_listed-gives.ensures.added (after (ascii ", a run has ") (row_on c.args.sheet.now c.args.listing.now c.args.place) _ c.put_text-row.ensures.added (after (run_text (outcome c.args.sheet.now rooms) c.args.place) (10 ∷ []) _ c.put_run-end.ensures.added c.put_byte.ensures.added)))))) }
