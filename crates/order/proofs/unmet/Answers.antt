-- `order::unmet` meets its contract.
use Rattle.order.proofs.unmet.Goals as goal
use native.Mathlib.Omega.{arith}
use lib.ListN.{length-take}
use Rattle.std.specs.List.{each_same}
use Rattle.order.proofs.Puts.{unmet_filled}

pub returns : goal.returns
returns c = record { unmet = unmet_filled _ (omega (arith, length-take c.args.n c.args.work.now, c.requires.inside)) (c.fill.ensures.after (λ y p. each_same _ _ p.whole)) }
