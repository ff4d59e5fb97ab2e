-- `listing::put_value` meets its contract: the value's hundredths, which are below 10 ^ 14, or a star. Assumes nothing.
use Rattle.listing.proofs.put_value.Goals as goal
use mathlib.Core.Path.{ap}
use Rattle.rules.specs.Number.{hundredths_of}
use Rattle.rules.specs.Listing.{decimals}
use Rattle.listing.proofs.Puts.{renamed, bounded}
use Rattle.listing.proofs.Lengths.{decimals_short, value_room}

pub put_hundredths-requires : goal.put_hundredths-requires
put_hundredths-requires c = record { room = value_room _ _ _ _ c.in_hundredths.ensures.defined c.requires.room }

pub returns : goal.returns
returns c = let both = bounded (decimals (hundredths_of c.args.value)) c.args.at c.args.out.now (renamed _ (ap decimals c.in_hundredths.ensures.defined) c.put_hundredths.ensures.added) 16 (decimals_short c.args.value) in record { added = both.0; within = both.1 }
