-- `pool::astray` meets its contract.
use Rattle.std.proofs.Common.{rules, tests, refl, ◌∙◌, arith}
use Rattle.std.proofs.lemmas.Iterator.{YieldsList-from_range}
use Rattle.std.proofs.lemmas.Iterator.Search.{any_from_yields_List}
use Rattle.rules.specs.Pool as rule
use Rattle.pool.specs.Pooled.{astray_at}
use Rattle.pool.proofs.Below.{any_below}
use Rattle.pool.proofs.astray.Goals as goal

pub returns : goal.returns
unfolding rule.astray
returns c = record { defined = any_from_yields_List (astray_at c.args.rooms.now c.args.stretches.now c.args.p) _ _ _ c.any.ensures.ran (YieldsList-from_range 0 5 5 refl (omega arith)) (λ x b q k. search (rules, tests)) ∙ any_below (astray_at c.args.rooms.now c.args.stretches.now c.args.p) 0 5 }
