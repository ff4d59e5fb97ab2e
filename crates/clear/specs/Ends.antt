-- A column of which the first n elements stay. Definitions only.
use Rattle.std.specs.Prelude.{ℕ, ◌-◌, ◌≡◌, List, ◌++◌, length, take, replicate}
use Rattle.columns.specs.Lending.{LentColumn}

-- zeros behind them, to its end
unfoldable pub cleared : {B : Type 0} → B → ℕ → List B → List B
cleared z n c = take n c ++ replicate (length c - n) z

-- the column that was lent comes back so
abbrev pub ClearedFrom : {B : Type 0} → LentColumn B → B → ℕ → Type 0
ClearedFrom c z n = c.exit.now ≡ cleared z n c.entry.now
