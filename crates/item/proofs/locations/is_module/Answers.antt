-- `locations::is_module` meets its contract. Assumes nothing.
use Rattle.item.proofs.locations.is_module.Goals as goal
use mir.Syntax.{w32}
use mir.ValLaws.{to_z-of_z}
use borrow.Author.Rules.{sfits_of}

pub returns : goal.returns
returns c = record { defined = λ k of. rw (c.is_module_category.ensures.defined k of, to_z-of_z w32 c.args.o.category_id (sfits_of c.struct_told-1.given.1.1.1.1.0.1)) }
