-- `header::category_subsystem` meets its contract. Assumes nothing.
use Rattle.info.proofs.header.category_subsystem.Goals as goal
use borrow.Author.Rules.{sfits_of}
use Rattle.info.proofs.Elements.{kept}

pub returns : goal.returns
returns c = record { defined = kept (sfits_of c.i32_at.type_inv) (rw c.categories_at-at.ensures.defined at c.i32_at.ensures.defined) }
