-- `seats::differ` meets its contract.
use mathlib.Core.Path.{refl, ◌∙◌}
use mathlib.Core.Bool.{not}
use Rattle.std.proofs.Common.{rules, tests, arith}
use Rattle.std.proofs.lemmas.Iterator.{YieldsList-from_range}
use Rattle.std.proofs.lemmas.Iterator.Search.{any_from_yields_List}
use Rattle.pool.proofs.Below.{any_below}
use Rattle.seats.specs.Seats.{same_five}
use Rattle.seats.proofs.differ.Goals as goal

pub returns : goal.returns
returns c = record { defined = any_from_yields_List (λ p. not (same_five c.args.stretches.now p)) _ _ _ c.any.ensures.ran (YieldsList-from_range 0 16 16 refl (omega arith)) (λ x b q k. search (rules, tests)) ∙ any_below (λ p. not (same_five c.args.stretches.now p)) 0 16 }
