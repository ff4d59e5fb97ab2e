-- `compared::put_place` meets its contract. Assumes nothing.
use Rattle.compared.proofs.put_place.Goals as goal
use native.Mathlib.Omega.{arith}
use Rattle.listing.proofs.Puts.{renamed}
use Rattle.compared.proofs.Saying.{place_small, place_large}

pub returns-then-n-lt4294967296 : goal.returns-then-n-lt4294967296
returns-then-n-lt4294967296 c = record {
  added = renamed _ (place_small c.args.n c.if-n-lt4294967296.true) c.put_u32.ensures.added;
  within = c.put_u32.ensures.within;
}

pub returns : goal.returns
returns c = record {
  added = renamed _ (place_large c.args.n c.if-n-lt4294967296.false) c.put_byte.ensures.added;
  within = omega (arith, c.put_byte.ensures.next);
}
