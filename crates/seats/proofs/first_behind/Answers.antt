-- `seats::first_behind` meets its contract.
use native.Mathlib.Omega.{arith}
use mathlib.Core.Path.{◌∙◌}
use lib.Dec.{ltb}
use lib.ListN.{take}
use Rattle.std.proofs.Common.{rules, tests}
use Rattle.std.proofs.lemmas.Iterator.{YieldsList-from_slice}
use Rattle.std.proofs.lemmas.Iterator.Search.{position_from_yields_List}
use Rattle.seats.proofs.First.{first-behind}
use Rattle.seats.proofs.first_behind.Goals as goal

pub returns : goal.returns
returns c = record { defined = c.unwrap_or.ensures ∙ first-behind c.args.t c.args.n (omega (arith, c.well_formed.0.1.0.1, c.requires.few)) c.args.start (position_from_yields_List (λ s. ltb c.args.start s.start) _ _ _ c.position.ensures.ran (YieldsList-from_slice (take c.args.n c.args.t) cc) (λ x b q k. search (rules, tests))) }
