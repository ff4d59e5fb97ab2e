-- `seats::emptied` meets its contract.
use mathlib.Core.Path.{ap, ◌∙◌}
use mathlib.Core.List.{List, ◌++◌}
use lib.ListN.{drop, replicate}
use lib.Seq.{length-take-le}
use native.Mathlib.Omega.{arith}
use Rattle.free_table.specs.declared.Stretch.{Stretch}
use Rattle.free_table.specs.Table.{empty}
use Rattle.seats.proofs.emptied.Goals as goal

pub returns : goal.returns
returns c = record { defined = ap (λ (r : List Stretch). r ++ drop c.args.n c.args.t) (c.fill.ensures.after (λ y k. k) ∙ ap (λ k. replicate k empty) (length-take-le c.args.n c.args.t (omega (arith, c.well_formed.0.1.0.1, c.requires.few)))) }
