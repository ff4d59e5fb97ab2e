-- `dispatch::room::has_row` meets its contract.
use Rattle.std.proofs.Common.{◌∙◌, take, rules, tests}
use Rattle.std.proofs.lemmas.Iterator.{YieldsList-from_slice}
use Rattle.std.proofs.lemmas.Iterator.Search.{any_from_yields_List}
use Rattle.dispatch.specs.Keyed.{is_row}
use Rattle.laws.proofs.Any.{any_some}
use Rattle.dispatch.proofs.room.has_row.Goals as goal

pub returns : goal.returns
returns c = record {
  defined =
      any_from_yields_List (is_row c.args.object c.args.attribute) _ _ _ c.any.ensures.ran (YieldsList-from_slice (take c.args.n c.args.rows.now) cc) (λ x b q k. search (rules, tests))
      ∙ any_some (is_row c.args.object c.args.attribute) (take c.args.n c.args.rows.now);
}
