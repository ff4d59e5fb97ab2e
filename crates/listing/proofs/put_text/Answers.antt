-- `listing::put_text` meets its contract: the bytes are copied in.
use Rattle.listing.proofs.put_text.Goals as goal
use Rattle.std.proofs.Common.{refl}
use Rattle.listing.proofs.Puts.{copied}

pub returns-clause-added : goal.returns-clause-added
returns-clause-added c = copied c.args.at _ c.args.out.now c.copy_from_slice.ensures.after refl c.requires.room
