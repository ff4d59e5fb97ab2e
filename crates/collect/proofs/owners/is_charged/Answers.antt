-- `owners::is_charged` meets its contract. Assumes nothing.
use Rattle.collect.proofs.owners.is_charged.Goals as goal
use native.Mathlib.Omega.{arith}
use mathlib.Core.Path.{◌∙◌}
use borrow.Author.Tests.{le-ltb}
use Rattle.rules.specs.Sheet.{fit_of}
use Rattle.info.proofs.Elements.{objects_length}
use Rattle.collect.proofs.Neighbours.{next_none}

pub returns-else-next-count_of : goal.returns-else-next-count_of
returns-else-next-count_of c = record { defined = le-ltb _ _ c.if-next-count_of.false ∙ next_none (fit_of c.args.fit.now c.args.pairs.now) (omega (arith, c.if-next-count_of.false, c.count_of.ensures.defined, c.index-next.ensures.defined.0, objects_length c.args.fit.now c.args.pairs.now)) }
