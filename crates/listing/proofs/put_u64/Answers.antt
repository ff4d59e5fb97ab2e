-- `listing::put_u64` meets its contract: there are twenty digits at most. Assumes nothing.
use Rattle.listing.proofs.put_u64.Goals as goal
use native.Mathlib.Omega.{arith}
use Rattle.listing.proofs.Puts.{bounded}
use Rattle.listing.proofs.Digits.{natural-most}

pub put_natural-requires : goal.put_natural-requires
put_natural-requires c = record { room = omega (arith, c.requires.room, natural-most c.args.n) }

pub returns : goal.returns
returns c = let both = bounded _ c.args.at c.args.out.now c.put_natural.ensures.added 20 (natural-most c.args.n) in record { added = both.0; within = both.1 }
