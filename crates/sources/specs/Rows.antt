-- Rows of list 2 whose first and count in list 5 are planned. Definitions only.
use Rattle.std.specs.Prelude.{ℕ, ◌+◌, min, ◌≡◌, List, [], ◌∷◌, map, Float, length, take}
use Rattle.laws.specs.Lists.{flat, total}
use Rattle.rules.specs.Bytes.{bits}
use Rattle.rules.specs.Dispatch.{Row}
use Rattle.rules.specs.Columns.{rows_numbers}
use Rattle.rules.specs.declared.Effect.{Effect}
use Rattle.sources.specs.Ranged.{EntriesHeld, planned_by}

-- a number in 32 bits: past them it is the greatest
abbrev pub held : ℕ → ℕ
held n = min n 4294967295

-- the source rows of a row, by the states; of each row
abbrev pub count_by : List (List ℕ) → Row → ℕ
count_by states r = total (map (planned_by states) r.entries)

abbrev pub counts_by : List (List ℕ) → List Row → List ℕ
counts_by states rs = map (count_by states) rs

-- the numbers of the rows, by their counts of source rows: e entries and s source rows stand before them
abbrev pub planned_numbers : ℕ → ℕ → List Row → List ℕ → List (List ℕ)
planned_numbers e s [] ns = []
planned_numbers e s (r ∷ rs) [] = (r.object ∷ bits r.id ∷ e ∷ length r.entries ∷ held s ∷ 0 ∷ []) ∷ planned_numbers (e + length r.entries) s rs []
planned_numbers e s (r ∷ rs) (n ∷ ns) =
    (r.object ∷ bits r.id ∷ e ∷ length r.entries ∷ held s ∷ held n ∷ []) ∷ planned_numbers (e + length r.entries) (s + n) rs ns

abbrev pub entries_of : List Row → List Effect
entries_of rs = flat (λ r. r.entries) rs

-- the first n rows of the column r are rs, with no source rows, and c and v hold their entries
pub record DispatchedRows (rs : List Row) (n : ℕ) (r c : List (List ℕ)) (v : List Float) : Type 0 where
  pub count : n ≡ length rs
  pub numbers : take n r ≡ rows_numbers 0 0 rs []
  pub entries : EntriesHeld (entries_of rs) c v

-- they are some rows
pub record Planning (n : ℕ) (r c : List (List ℕ)) (v : List Float) : Type 0 where
  pub rows : List Row
  pub dispatched : DispatchedRows rows n r c v
