-- `compared::put_listed` meets its contract: a line's fields, or that there is none.
use Rattle.compared.proofs.put_listed.Goals as goal
use Rattle.std.proofs.Common.{[], ap, w32, to_z}
use Rattle.listing.proofs.Puts.{renamed}
use Rattle.compared.proofs.Saying.{listed_at}

pub returns : goal.returns
returns c =
    let found = c.in-Some.ensures.lookup in
    record {
      added = renamed _ (listed_at c.args.listing.now c.args.place found.3.0 (found.3.1 []) (ap (to_z w32) c.signed.ensures.and_back) c.whole_bits-bits.ensures.defined) c.put_fields.ensures.added;
      within = c.put_fields.ensures.within;
    }
