-- `seats::all_inside` meets its contract.
use mathlib.Core.Path.{sym, ◌∙◌}
use mathlib.Core.Bool.{not}
use mathlib.Core.List.{[], ◌∷◌}
use Rattle.std.proofs.Common.{rules, tests}
use Rattle.std.proofs.lemmas.Iterator.{YieldsList-from_slice}
use Rattle.std.proofs.lemmas.Iterator.Search.{all_from_yields_List}
use Rattle.rules.specs.Pool.{leaves}
use Rattle.seats.specs.Tiling.{inside}
use Rattle.seats.proofs.Loops.{all_every, inside-leaves}
use Rattle.seats.proofs.all_inside.Goals as goal

pub returns : goal.returns
returns c = record { defined = all_from_yields_List (λ s. not (leaves c.args.pool (s.start ∷ s.length ∷ []))) _ _ _ c.all.ensures.ran (YieldsList-from_slice c.args.all cc) (λ x b q k. search (rules, tests)) ∙ all_every _ (inside c.args.pool) (λ s. sym (inside-leaves c.args.pool s)) c.args.all }
