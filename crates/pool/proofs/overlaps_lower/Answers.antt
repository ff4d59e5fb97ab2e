-- `pool::overlaps_lower` meets its contract.
use Rattle.std.proofs.Common.{rules, tests, refl, ◌∙◌, arith}
use Rattle.std.proofs.lemmas.Iterator.{YieldsList-from_range}
use Rattle.std.proofs.lemmas.Iterator.Search.{any_from_yields_List}
use Rattle.rules.specs.Pool.{overlaps}
use Rattle.pool.specs.Pooled.{stretch_at}
use Rattle.pool.proofs.Below.{any_below}
use Rattle.pool.proofs.overlaps_lower.Goals as goal

pub returns : goal.returns
returns c = record { defined = any_from_yields_List (λ q. overlaps (stretch_at c.args.stretches.now c.args.p c.args.list) (stretch_at c.args.stretches.now q c.args.list)) _ _ _ c.any.ensures.ran (YieldsList-from_range 0 c.args.p c.args.p refl (omega arith)) (λ x b q k. search (rules, tests)) ∙ any_below _ 0 c.args.p }
