-- `states::is_structure_fit` meets its contract. Assumes nothing.
use Rattle.states.proofs.is_structure_fit.Goals as goal
use mathlib.Core.Path.{sym, ◌∙◌}
use Rattle.states.proofs.Standing.{no_ship}

pub returns-else-count_of-ne0 : goal.returns-else-count_of-ne0
returns-else-count_of-ne0 c = record { defined = rw c.if-count_of-ne0.false (no_ship _ _ (sym c.count_of.ensures.defined ∙ c.if-count_of-ne0.false)) }
