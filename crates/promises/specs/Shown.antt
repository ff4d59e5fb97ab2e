-- The state that a source row names, "the lowest state that would do", as the columns show it. Definitions only.
use Rattle.std.specs.Prelude.{ℕ, ◌≤◌, ◌≡◌, leb}
use Rattle.rules.specs.Columns.{yes1}
use Rattle.promises.specs.Given.{cell}
use Rattle.promises.specs.Result.{Result}

-- number 10 of source row p
abbrev pub state_shown : Result → ℕ → ℕ
state_shown r p = cell r.sources p 10

-- the state that object o is in, number 0 of its row in the states column
abbrev pub state_in : Result → ℕ → ℕ
state_in r o = cell r.states o 0

-- source row p is from an object (0) or a buff (1), and names a state of 0 to 3; from an object it applies exactly if the object's state is
-- that or higher; "Passive for a buff's", which applies
pub record Shown (r : Result) (p : ℕ) : Type 0 where
  pub from : cell r.sources p 0 ≤ 1
  pub few : state_shown r p ≤ 3
  pub object : cell r.sources p 0 ≡ 0 → cell r.sources p 9 ≡ yes1 (leb (state_shown r p) (state_in r (cell r.sources p 1)))
  pub buff : cell r.sources p 0 ≡ 1 → (state_shown r p ≡ 0) × (cell r.sources p 9 ≡ 1)
