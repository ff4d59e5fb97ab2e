-- `header::depth_of` meets its contract. Assumes nothing.
use Rattle.info.proofs.header.depth_of.Goals as goal

pub returns : goal.returns
returns c = record { defined = rw c.depth_at-at.ensures.defined at c.u32_at.ensures.defined }
