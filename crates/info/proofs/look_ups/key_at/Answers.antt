-- `look_ups::key_at` meets its contract. Assumes nothing.
use Rattle.info.proofs.look_ups.key_at.Goals as goal
use borrow.Author.Rules.{sfits_of}
use Rattle.info.specs.LookUps.{key_at}
use Rattle.info.proofs.Elements.{kept}

pub returns : goal.returns
unfolding key_at
returns c = record { defined = kept (sfits_of c.i32_at.type_inv) c.i32_at.ensures.defined }
