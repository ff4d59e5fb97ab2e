-- `turns::turns_of` meets its contract.
use Rattle.reading.proofs.turns.turns_of.Goals as goal
use Prim.Native.Nat.{ℕ, ◌+◌}
use mathlib.Core.Path.{ap, ◌∙◌}
use Rattle.reading.specs.Order.{rows_below}
use Rattle.rules.specs.Sheet.{fit_of}
use Rattle.rules.proofs.Verdicts.{objects_good_lem}
use Rattle.info.proofs.Sheets.{numbered}
use Rattle.reading.proofs.Walks.{objects_climb, turns_are}

pub returns : goal.returns
returns c = record { in_order = λ rs H o. turns_are rs (objects_climb rs H.ordered) (fit_of c.args.fit.now c.args.pairs.now) (numbered c.args.fit.now c.args.pairs.now) (objects_good_lem _ c.requires.sound.good) _ (c.rows_below.ensures.counted rs H) (c.rows_below-2.ensures.counted rs H ∙ ap (λ (n : ℕ). rows_below (n + 1) rs) c.char_of-character.ensures.defined) (c.rows_below-3.ensures.counted rs H ∙ ap (λ (n : ℕ). rows_below n rs) c.projected_end-end.ensures.defined) o }
