-- What collection is lent and what it answers. Definitions only.
use Rattle.std.specs.Prelude.{◌≡◌, ℕ, List, Float, Result}
use Rattle.rules.specs.Collect.{Move}
use Rattle.rules.specs.Outcome as outcome
use Rattle.columns.specs.Lending.{LentColumn}
use Rattle.rules.specs.declared.Refusal.{Refusal}
use Rattle.modifier.specs.declared.moves.CollectedCounts.{CollectedCounts}
use Rattle.modifier.specs.Ran.{stand_of, ended}

-- of the rooms q, the answer and the columns are what the definition's answer to all moves ms says
abbrev pub Collects : outcome.Rooms → Result CollectedCounts Refusal → List Move → LentColumn (List ℕ) → LentColumn Float → LentColumn (List ℕ) → Type 0
Collects q r ms c v l = stand_of r c.exit.now v.exit.now l.exit.now ≡ ended (outcome.collected q 0 0 ms) ms c.entry.now v.entry.now l.entry.now
