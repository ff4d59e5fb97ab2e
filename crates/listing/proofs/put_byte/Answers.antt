-- `listing::put_byte` meets its contract. Assumes nothing.
use Rattle.listing.proofs.put_byte.Goals as goal
use mathlib.Core.Path.{refl}
use Rattle.listing.specs.Put.{puts}

pub returns : goal.returns
unfolding puts
returns c = record {
  added = refl;
  next = refl;
}
