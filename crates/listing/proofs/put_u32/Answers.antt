-- `listing::put_u32` meets its contract: there are ten digits at most. Assumes nothing.
use Rattle.listing.proofs.put_u32.Goals as goal
use native.Mathlib.Omega.{arith}
use Rattle.listing.proofs.Puts.{bounded}
use Rattle.listing.proofs.Lengths.{few}
use Rattle.std.proofs.Common.{rules}

pub put_natural-requires : goal.put_natural-requires
put_natural-requires c = record { room = omega (arith, c.requires.room, few c.args.n (search rules)) }

pub returns : goal.returns
returns c = let both = bounded _ c.args.at c.args.out.now c.put_natural.ensures.added 10 (few c.args.n (search rules)) in record { added = both.0; within = both.1 }
