-- The three category numbers that the header gives, apart from the book's tables.
use Rattle.std.specs.Prelude.{◌≡◌}
use Rattle.rules.specs.Sheet.{Book}
use Rattle.item.specs.declared.locations.Categories.{Categories}

-- c are the book's category numbers
pub record CategoriesOf (k : Book) (c : Categories) : Type 0 where
  pub modules : c.modules ≡ k.modules
  pub subsystems : c.subsystems ≡ k.subsystems
  pub structure_modules : c.structure_modules ≡ k.structure_modules
