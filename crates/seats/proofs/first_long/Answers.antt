-- `seats::first_long` meets its contract.
use native.Mathlib.Omega.{arith}
use lib.Dec.{leb}
use lib.ListN.{take}
use Rattle.std.proofs.Common.{rules, tests}
use Rattle.std.proofs.lemmas.Iterator.{YieldsList-from_slice}
use Rattle.std.proofs.lemmas.Iterator.Search.{position_from_yields_List}
use Rattle.seats.proofs.First.{first-found}
use Rattle.seats.proofs.first_long.Goals as goal

pub returns : goal.returns
returns c = record { defined = first-found c.args.t c.args.n (omega (arith, c.well_formed.0.1.0.1, c.requires.few)) c.args.wanted (position_from_yields_List (λ s. leb c.args.wanted s.length) _ _ _ c.position.ensures.ran (YieldsList-from_slice (take c.args.n c.args.t) cc) (λ x b q k. search (rules, tests))) }
