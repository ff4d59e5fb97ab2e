-- `seats::with_free` meets its contract.
use mathlib.Core.Path.{ap, ◌∙◌}
use mathlib.Core.List.{List, ◌++◌}
use lib.ListN.{take, drop, replicate}
use Rattle.free_table.specs.declared.Stretch.{Stretch}
use Rattle.free_table.specs.Table.{empty}
use Rattle.std.proofs.lemmas.List.{drop-replicate}
use Rattle.seats.proofs.with_free.Goals as goal

pub returns : goal.returns
returns c = record { defined = ap (λ (f : List Stretch). f ++ drop c.args.n (replicate 33 empty)) c.copy_from_slice.ensures.after ∙ ap (λ (r : List Stretch). take c.args.n c.args.t ++ r) (drop-replicate c.args.n 33 empty) }
