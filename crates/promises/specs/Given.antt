-- The words of what is said of results alone. Definitions only.
use Rattle.std.specs.Prelude.{ℕ, ◌≤◌, ◌<◌, ◌≡◌, true, List, [], Float, get_or, replicate}
use Rattle.std.proofs.Math.Option.{none, some}
use Rattle.laws.specs.Lists.{every?}
use Rattle.laws.specs.Floats.{finite, zero_f}
use Rattle.rules.specs.Answer.{ok}
use Rattle.rules.specs.Columns.{zero_entry, zero_source}
use Rattle.rules.specs.Outcome.{Lent, Done, outcome}
use Rattle.promises.specs.Result.{Result}

-- number j of row i, 0 where there is none: of list 2, 0 is the object and 1 the attribute
abbrev pub cell : List (List ℕ) → ℕ → ℕ → ℕ
cell c i j = get_or (get_or c i []) j 0

-- two columns that are the same as far as both go, and zeros behind
abbrev pub Same : {A : Type 0} → A → List A → List A → Type 0
Same zero c d = (i : ℕ) → get_or c i zero ≡ get_or d i zero

-- the same result, in columns of other lengths
pub record SameResult (r s : Result) : Type 0 where
  pub number : r.number ≡ s.number
  pub place : r.place ≡ s.place
  pub counts : r.counts ≡ s.counts
  pub states : r.states ≡ s.states
  pub collected : Same (replicate 14 0) r.collected s.collected
  pub collected_values : Same zero_f r.collected_values s.collected_values
  pub rows : Same (replicate 6 0) r.rows s.rows
  pub bases : Same zero_f r.bases s.bases
  pub values : Same zero_f r.values s.values
  pub entries : Same zero_entry r.entries s.entries
  pub entry_values : Same zero_f r.entry_values s.entry_values
  pub plain : Same (replicate 2 0) r.plain s.plain
  pub sources : Same zero_source r.sources s.sources
  pub source_floats : Same (replicate 2 zero_f) r.source_floats s.source_floats

-- the same rows, with the same entries, and the same values: all of lists 2 and 3 but which source rows a row has
pub record SameValues (r s : Result) : Type 0 where
  pub row_count : r.counts.rows ≡ s.counts.rows
  pub entry_count : r.counts.entries ≡ s.counts.entries
  pub rows : (i j : ℕ) → j < 4 → cell r.rows i j ≡ cell s.rows i j
  pub bases : Same zero_f r.bases s.bases
  pub values : Same zero_f r.values s.values
  pub entries : Same zero_entry r.entries s.entries
  pub entry_values : Same zero_f r.entry_values s.entry_values

-- nothing but zeros behind the count of each list
pub record ZeroEnds (r : Result) : Type 0 where
  pub collected : (i : ℕ) → r.counts.collected ≤ i → get_or r.collected i (replicate 14 0) ≡ replicate 14 0
  pub collected_values : (i : ℕ) → r.counts.collected ≤ i → get_or r.collected_values i zero_f ≡ zero_f
  pub rows : (i : ℕ) → r.counts.rows ≤ i → get_or r.rows i (replicate 6 0) ≡ replicate 6 0
  pub bases : (i : ℕ) → r.counts.rows ≤ i → get_or r.bases i zero_f ≡ zero_f
  pub values : (i : ℕ) → r.counts.rows ≤ i → get_or r.values i zero_f ≡ zero_f
  pub entries : (i : ℕ) → r.counts.entries ≤ i → get_or r.entries i zero_entry ≡ zero_entry
  pub entry_values : (i : ℕ) → r.counts.entries ≤ i → get_or r.entry_values i zero_f ≡ zero_f
  pub plain : (i : ℕ) → r.counts.plain ≤ i → get_or r.plain i (replicate 2 0) ≡ replicate 2 0
  pub sources : (i : ℕ) → r.counts.sources ≤ i → get_or r.sources i zero_source ≡ zero_source
  pub source_floats : (i : ℕ) → r.counts.sources ≤ i → get_or r.source_floats i (replicate 2 zero_f) ≡ replicate 2 zero_f

-- every float is finite
pub record Finite (r : Result) : Type 0 where
  pub collected_values : every? finite r.collected_values ≡ true
  pub bases : every? finite r.bases ≡ true
  pub values : every? finite r.values ≡ true
  pub entry_values : every? finite r.entry_values ≡ true
  pub source_floats : every? (every? finite) r.source_floats ≡ true

-- the value of row i is in the definition's memory at the end, and it is the one that comes back
pub record Valued (b : List ℕ) (l : Lent) (r : Result) (i : ℕ) : Type 0 where
  pub done : Done
  pub is-done : outcome b l ≡ ok done
  pub value : Float
  pub remembered : get_or done.values i none ≡ some value
  pub given : get_or r.values i zero_f ≡ value
