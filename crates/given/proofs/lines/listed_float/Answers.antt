-- `lines::listed_float` meets its contract. Assumes nothing.
use Rattle.given.proofs.lines.listed_float.Goals as goal
use mathlib.Core.Path.{sym, ◌∙◌}
use lib.Ieee.{of_bits}
use Rattle.given.proofs.Lining.{shown_finite, shown_nan}

pub returns-then-is_finite : goal.returns-then-is_finite
returns-then-is_finite c = record { defined = shown_finite c.args.low c.args.high _ (rw (c.from.ensures, c.from-2.ensures) at c.float_of-x.ensures.defined) (sym c.is_finite.ensures.defined ∙ c.if-is_finite.true) }

pub returns-else-is_finite : goal.returns-else-is_finite
unfolding of_bits
returns-else-is_finite c = record { defined = shown_nan c.args.low c.args.high c.float_of-x.result (rw (c.from.ensures, c.from-2.ensures) at c.float_of-x.ensures.defined) (sym c.is_finite.ensures.defined ∙ c.if-is_finite.false) }
