-- The lists of all objects, whose hits stand in list 3 by object. Definitions only.
use Rattle.std.specs.Prelude.{ℕ, ◌+◌, ◌≤◌, ◌<◌, ◌^◌, ◌≡◌, true, List, [], map, ltb, Float, length, get_or, take, Option, Some, None}
use Rattle.laws.specs.Lists.{every?, flat, from}
use Rattle.laws.specs.Columns.{Col}
use Rattle.rules.specs.Sheet.{Book, Fit}
use Rattle.rules.specs.Item.{object}
use Rattle.rules.specs.Dispatch.{Row}
use Rattle.rules.specs.Columns.{origin_value, rows_numbers, entry_numbers}
use Rattle.rules.specs.declared.Pass2Effect.{Pass2Effect}
use Rattle.info.specs.Stands.{numbered_at}
use Rattle.rows.specs.Tallies.{hit_number}
use Rattle.rows.specs.Entries.{rows_for}
use Rattle.rows.specs.Laying.{entries_of}

-- how many hits the first n objects have
abbrev pub hits_to : (ℕ → List ℕ) → ℕ → ℕ
hits_to part n = length (flat part (from 0 n))

-- list 3 holds, object by object, the numbers of the effects that hit it; each part has its end
pub record Parts (part : ℕ → List ℕ) (objects : ℕ) (entries : List (List ℕ)) (ends : List ℕ) : Type 0 where
  pub placed : map hit_number (take (hits_to part objects) entries) ≡ flat part (from 0 objects)
  pub ended : (i : ℕ) → i < objects → get_or ends i 0 ≡ hits_to part (i + 1)

-- there are such parts, of c's effects, inside both columns
pub record Parting (objects : ℕ) (entries : List (List ℕ)) (values : List Float) (ends : List ℕ) (c : List (List ℕ)) : Type 0 where
  pub part : ℕ → List ℕ
  pub parts : Parts part objects entries ends
  pub inside : hits_to part objects ≤ length entries
  pub even : hits_to part objects ≤ length values
  pub few : hits_to part objects < 2 ^ 32
  pub numbered : every? (λ j. ltb j (length c)) (flat part (from 0 objects)) ≡ true

-- the rows of object i, and those of the first n objects
abbrev pub part_rows : Book → Fit → List Pass2Effect → (ℕ → List ℕ) → ℕ → List Row
part_rows k f es part i = rows_for k f (object f i) (map (numbered_at es) (part i))

abbrev pub rows_to : Book → Fit → List Pass2Effect → (ℕ → List ℕ) → ℕ → List Row
rows_to k f es part n = flat (part_rows k f es part) (from 0 n)

-- the columns of lists 2 and 3 hold the rows rs and their entries
pub record ListsLaid (rs : List Row) (r₀ r : List (List ℕ)) (b₀ b : List Float) (e₀ e : List (List ℕ)) (v₀ v : List Float) : Type 0 where
  pub rows : Col (λ r. r) (rows_numbers 0 0 rs []) r₀ r
  pub bases : Col (λ r. r.base) rs b₀ b
  pub entries : Col entry_numbers (entries_of rs) e₀ e
  pub values : Col (λ x. origin_value x.origin) (entries_of rs) v₀ v

-- with so many entries; or there is no room for the rows
abbrev pub AllLaid : Option ℕ → ℕ → ℕ → List Row → List (List ℕ) → List (List ℕ) → List Float → List Float → List (List ℕ) → List (List ℕ) → List Float → List Float → Type 0
AllLaid (Some n) room m rs r₀ r b₀ b e₀ e v₀ v = (n ≡ length rs) × (length rs ≤ room) × (length (entries_of rs) ≡ m) × ListsLaid rs r₀ r b₀ b e₀ e v₀ v
AllLaid None room m rs r₀ r b₀ b e₀ e v₀ v = room < length rs
