-- `numbers::stepped` meets its contract.
use Rattle.numbers.proofs.stepped.Goals as goal
use Rattle.std.proofs.Common.{sym, ◌∙◌}
use Rattle.numbers.proofs.Steps.{stepped}

pub returns-then-is_finite : goal.returns-then-is_finite
returns-then-is_finite c = record { defined = stepped _ (sym c.if-is_finite.true ∙ c.is_finite.ensures.defined) }

pub returns-else-is_finite : goal.returns-else-is_finite
returns-else-is_finite c = record { defined = stepped _ (sym c.if-is_finite.false ∙ c.is_finite.ensures.defined) }
