-- Which rows are not touched. Definitions only.
use Rattle.std.specs.Prelude.{ℕ, ◌≡◌, List, [], get_or}
use Rattle.std.specs.Int.{w32}
use Rattle.std.proofs.Common.{to_z}
use Rattle.rules.specs.Sheet.{Book}
use Rattle.reading.specs.Stretched.{Limits, Unlimited}

-- row i of list 2 has no entries, and its attribute has no limit
pub record Bare (rows : List (List ℕ)) (limits : List ℕ) (i : ℕ) : Type 0 where
  pub empty : get_or (get_or rows i []) 3 0 ≡ 0
  pub free : (k : Book) → Limits k limits → Unlimited k (to_z w32 (get_or (get_or rows i []) 1 0))
