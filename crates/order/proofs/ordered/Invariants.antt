use Rattle.order.proofs.ordered.Given as goal
use mathlib.Core.Path.{◌≡◌}
use lib.ListN.{length}
use Rattle.needs.specs.Telling.{tables_of}
use Rattle.order.specs.Walks.{Walking}

abbrev pub invariant-loop : goal.invariant-loop
invariant-loop l = (length l.work ≡ length l.initial.work) × Walking (tables_of l.columns) l.walk l.work
