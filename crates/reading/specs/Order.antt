-- In which order the walk goes over the rows, by their places in list 2. Definitions only.
use Rattle.std.specs.Prelude.{ℕ, ◌+◌, ◌-◌, ◌≤◌, ◌≡◌, Bool, ◌||◌, cond, List, map, ltb, leb, length, get_or}
use Rattle.laws.specs.Lists.{keep, every?, from}
use Rattle.rules.specs.Sheet.{Fit}
use Rattle.rules.specs.Item.{is_projected, char_of}
use Rattle.rules.specs.Dispatch.{Row}
use Rattle.rules.specs.Outcome.{walk_order}
use Rattle.reading.specs.Held.{no_row}
use Rattle.reading.specs.declared.turns.Turns.{Turns}

-- how many rows are of objects below one
abbrev pub rows_below : ℕ → List Row → ℕ
rows_below o rs = length (keep (λ r. ltb r.object o) rs)

-- the projected ones stand right after the char: the number just past the last
abbrev pub projected_end : Fit → ℕ
projected_end f = char_of f + 1 + length (keep is_projected f.objects)

-- whether turn k is at the row of its own number: among the ship's, or past the projected ones'
abbrev pub stays : Turns → ℕ → Bool
stays t k = ltb k t.ship || leb t.projected k

abbrev pub projected_rows : Turns → ℕ
projected_rows t = t.projected - t.character

-- the place of the row that turn k is at: the projected ones' rows go before those of mode and char
abbrev pub walked_at : Turns → ℕ → ℕ
walked_at t k =
    let forward = k - t.ship + t.character in
    let back = k - projected_rows t in
    cond (stays t k) k (cond (ltb k (t.ship + projected_rows t)) forward back)

-- the rows end in this order
pub record Ordered (t : Turns) : Type 0 where
  pub ship : t.ship ≤ t.character
  pub character : t.character ≤ t.projected

-- every row is of one of n objects
abbrev pub owned : ℕ → List Row → Bool
owned n rs = every? (λ r. ltb r.object n) rs

-- t are the walk's turns over the rows of the objects
pub record TurnsOf (f : Fit) (rs : List Row) (t : Turns) : Type 0 where
  pub ordered : Ordered t
  pub inside : t.projected ≤ length rs
  pub order : walk_order f.objects rs ≡ map (λ k. get_or rs (walked_at t k) no_row) (from 0 (length rs))
