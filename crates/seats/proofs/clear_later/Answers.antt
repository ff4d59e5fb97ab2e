-- `seats::clear_later` meets its contract.
use Prim.Native.Nat.{◌+◌}
use mathlib.Core.Path.{refl, ◌∙◌}
use mathlib.Core.Bool.{not}
use lib.ListN.{drop, get_or}
use Rattle.std.proofs.Common.{rules, tests}
use Rattle.std.proofs.lemmas.Iterator.{YieldsList-from_slice}
use Rattle.std.proofs.lemmas.Iterator.Search.{all_from_yields_List}
use Rattle.free_table.specs.Table.{empty}
use Rattle.seats.specs.Tests.{overlaps}
use Rattle.seats.proofs.Loops.{all_every, whole_rest}
use Rattle.seats.proofs.clear_later.Goals as goal

pub returns : goal.returns
returns c = record { defined = all_from_yields_List (λ t. not (overlaps (get_or c.args.all c.args.i empty) t)) _ _ _ c.all.ensures.ran (YieldsList-from_slice (drop (c.args.i + 1) c.args.all) (c.iter.ensures.rest ∙ whole_rest c.args.all (c.args.i + 1) 33 c.well_formed.0.1.0.1)) (λ x b q k. search (rules, tests)) ∙ all_every _ _ (λ t. refl) (drop (c.args.i + 1) c.args.all) }
