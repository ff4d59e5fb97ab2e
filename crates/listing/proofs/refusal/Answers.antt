-- `listing::refusal` meets its contract: each piece from where the one before it ended. Assumes nothing.
use Rattle.listing.proofs.refusal.Goals as goal
use native.Mathlib.Omega.{arith}
use mathlib.Core.List.{[], ◌∷◌}
use Rattle.rules.specs.Listing.{natural, listing}
use Rattle.rules.specs.Answer.{refused}
use Rattle.listing.specs.Put.{put}
use Rattle.listing.proofs.Puts.{after, renamed}
use Rattle.listing.proofs.Lined.{begun}
use Rattle.listing.proofs.Texts.{refused_word, numbered, ended, refusal_is}

pub put_text-first-requires : goal.put_text-first-requires
put_text-first-requires c = record { room = omega (arith, c.requires.room) }

pub put_u64-space-requires : goal.put_u64-space-requires
put_u64-space-requires c = record { room = omega (arith, c.requires.room, c.put_text-first.ensures.next, c.put_text-first.auto.out) }

pub put_byte-second-requires : goal.put_byte-second-requires
put_byte-second-requires c = record { room = omega (arith, c.requires.room, c.put_text-first.ensures.next, c.put_text-first.auto.out, c.put_u64-space.ensures.within, c.put_u64-space.auto.out) }

pub put_u64-last-requires : goal.put_u64-last-requires
put_u64-last-requires c = record { room = omega (arith, c.requires.room, c.put_text-first.ensures.next, c.put_text-first.auto.out, c.put_u64-space.ensures.within, c.put_u64-space.auto.out, c.put_byte-second.ensures.next, c.put_byte-second.auto.out) }

pub put_byte-requires : goal.put_byte-requires
put_byte-requires c = record { room = omega (arith, c.requires.room, c.put_text-first.ensures.next, c.put_text-first.auto.out, c.put_u64-space.ensures.within, c.put_u64-space.auto.out, c.put_byte-second.ensures.next, c.put_byte-second.auto.out, c.put_u64-last.ensures.within, c.put_u64-last.auto.out) }

pub returns : goal.returns
returns c = record { the_line = λ x n p. begun (listing (refused x)) c.args.out.now (omega (arith, c.requires.room, c.put_text-first.ensures.next, c.put_u64-space.ensures.within, c.put_byte-second.ensures.next, c.put_u64-last.ensures.within, c.put_byte.ensures.next)) (renamed _ (refusal_is x n p) (after refused_word (numbered c.args.number c.args.place) (put 0 c.args.out.now) c.put_text-first.ensures.added (after (natural c.args.number) (32 ∷ ended c.args.place) _ c.put_u64-space.ensures.added (after (32 ∷ []) (ended c.args.place) _ c.put_byte-second.ensures.added (after (natural c.args.place) (10 ∷ []) _ c.put_u64-last.ensures.added c.put_byte.ensures.added))))) }
