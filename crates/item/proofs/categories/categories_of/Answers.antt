-- `categories::categories_of` meets its contract. Assumes nothing.
use Rattle.item.proofs.categories.categories_of.Goals as goal
use borrow.Author.Rules.{sfits_of}
use Rattle.rules.specs.Sheet.{book_of}
use Rattle.info.proofs.Elements.{kept}

pub returns : goal.returns
unfolding book_of
returns c = record { of_the_header = record { modules = kept (sfits_of c.category_module.type_inv) c.category_module.ensures.defined; subsystems = kept (sfits_of c.category_subsystem.type_inv) c.category_subsystem.ensures.defined; structure_modules = kept (sfits_of c.category_structure_module.type_inv) c.category_structure_module.ensures.defined } }
