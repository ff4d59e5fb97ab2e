-- What the lists hold of rows of the definition. Definitions only.
use Rattle.std.specs.Prelude.{ℕ, ◌≤◌, ◌<◌, ◌≡◌, true, List, [], map, Float, length, Option, Some, None}
use Rattle.laws.specs.Lists.{every?, flat}
use Rattle.laws.specs.Columns.{Col}
use Rattle.rules.specs.Dispatch.{Row}
use Rattle.rules.specs.Columns.{origin_value, rows_numbers, entry_numbers}
use Rattle.rules.specs.declared.Effect.{Effect}
use Rattle.rows.specs.Tallies.{Tally, id_of, tally_numbers, narrow?}

-- rows of object i as its hits left them
pub record Tallied (i : ℕ) (ts : List Tally) (rows : List (List ℕ)) : Type 0 where
  pub is : rows ≡ map (tally_numbers i) ts
  pub narrow : every? narrow? (map id_of ts) ≡ true

abbrev pub entries_of : List Row → List Effect
entries_of rs = flat (λ r. r.entries) rs

-- a part of list 3 holds the entries of the rows rs
pub record EntriesLaid (rs : List Row) (c : List (List ℕ)) (v : List Float) : Type 0 where
  pub entries : c ≡ map entry_numbers (entries_of rs)
  pub values : v ≡ map (λ x. origin_value x.origin) (entries_of rs)

-- a part of list 2 holds the rows rs, whose entries begin at e
pub record RowsLaid (e : ℕ) (rs : List Row) (c₀ c : List (List ℕ)) (b₀ b : List Float) : Type 0 where
  pub inside : length rs ≤ length c₀
  pub rows : Col (λ r. r) (rows_numbers e 0 rs []) c₀ c
  pub bases : Col (λ r. r.base) rs b₀ b

-- both; or the rows are too many
abbrev pub ObjectLaid : Option ℕ → ℕ → List Row → List (List ℕ) → List (List ℕ) → List Float → List Float → List (List ℕ) → List Float → Type 0
ObjectLaid (Some n) e rs c₀ c b₀ b s v = (n ≡ length rs) × RowsLaid e rs c₀ c b₀ b × EntriesLaid rs s v
ObjectLaid None e rs c₀ c b₀ b s v = length c₀ < length rs
