-- `compared::verdict_line` meets its contract: which verdict, by its number. Assumes nothing.
use Rattle.compared.proofs.verdict_line.Goals as goal
use native.Mathlib.Omega.{arith}
use mathlib.Core.List.{map}
use Rattle.settled.specs.Lines.{line_of}
use Rattle.listing.proofs.Puts.{renamed}
use Rattle.listing.proofs.Lined.{begun}
use Rattle.checks.specs.Check.{checked}
use Rattle.compared.specs.CheckText.{check_lent, verdict_text}
use Rattle.compared.proofs.Saying.{is_accepted, is_loop, is-listing, is_engine, begins_as}

pub put_text-requires : goal.put_text-requires
put_text-requires c = record { room = omega (arith, c.requires.room) }

pub returns-in-0 : goal.returns-in-0
returns-in-0 c = record { the_line = begun (verdict_text c.args.sheet.now c.args.listing.now (checked c.args.sheet.now check_lent (map line_of c.args.listing.now))) c.args.out.now (omega (arith, c.requires.room, c.put_text.ensures.next)) (renamed _ (is_accepted c.args.sheet.now c.args.listing.now (checked c.args.sheet.now check_lent (map line_of c.args.listing.now)) c.judged-verdict.ensures.number c.in-0.is) c.put_text.ensures.added) }

pub loop_line-requires : goal.loop_line-requires
loop_line-requires c = record { room = omega (arith, c.requires.room) }

pub returns-in-10 : goal.returns-in-10
returns-in-10 c = record { the_line = begins_as (is_loop c.args.sheet.now c.args.listing.now (checked c.args.sheet.now check_lent (map line_of c.args.listing.now)) c.judged-verdict.ensures.number c.judged-verdict.ensures.place c.in-10.is) c.loop_line.ensures.the_line }

pub bad_row-requires : goal.bad_row-requires
bad_row-requires c = record { room = omega (arith, c.requires.room) }

pub returns-in-15 : goal.returns-in-15
returns-in-15 c = record { the_line = begins_as (is-listing c.args.sheet.now c.args.listing.now (checked c.args.sheet.now check_lent (map line_of c.args.listing.now)) c.judged-verdict.ensures.number c.judged-verdict.ensures.place c.in-15.is) c.bad_row.ensures.the_line }

pub refusal-requires : goal.refusal-requires
refusal-requires c = record { room = omega (arith, c.requires.room) }

pub returns-in_default : goal.returns-in_default
returns-in_default c = record { the_line = is_engine c.args.sheet.now c.args.listing.now (checked c.args.sheet.now check_lent (map line_of c.args.listing.now)) c.judged-verdict.ensures.number c.judged-verdict.ensures.place (λ e. omega (arith, e)) (λ e. omega (arith, e)) (λ e. omega (arith, e)) c.refusal.ensures.the_line }
