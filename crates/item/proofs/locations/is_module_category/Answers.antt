-- `locations::is_module_category` meets its contract. Assumes nothing.
-- the machine's == against a field that is n
use Rattle.item.proofs.locations.is_module_category.Goals as goal
use lib.IntN.{ℤ}
use mir.Syntax.{w32}
use mir.Val.{SFits, of_z}
use borrow.Author.Rules.{sfits_of}
use mathlib.Core.Path.{◌≡◌, ap, ◌∙◌}
use lib.Dec.{eqb}
use Rattle.laws.specs.Lists.{eq_z}
use Rattle.laws.proofs.Signs.{eq_z-bits}

is : (a b n : ℤ) → SFits w32 a → SFits w32 b → b ≡ n → eqb (of_z w32 a) (of_z w32 b) ≡ eq_z a n
is a b n p q e = eq_z-bits a b p q ∙ ap (eq_z a) e

pub returns : goal.returns
returns c = record { defined = λ k of. rw (is _ _ _ c.ranges.category (sfits_of c.struct_told-1.given.0.1) of.modules, is _ _ _ c.ranges.category (sfits_of c.struct_told-1.given.1.0.1) of.subsystems, is _ _ _ c.ranges.category (sfits_of c.struct_told-1.given.1.1.0.1) of.structure_modules) }
