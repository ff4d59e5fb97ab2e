-- Entries in the columns of list 3, and how many source rows a run of them gets. Definitions only.
use Rattle.std.specs.Prelude.{ℕ, ◌+◌, ◌≤◌, ◌<◌, List, [], map, Float, length, get_or}
use Rattle.std.specs.Float.{nan}
use Rattle.laws.specs.Lists.{span, total}
use Rattle.rules.specs.declared.Effect.{Effect}
use Rattle.reading.specs.Held.{EntryHeld, Sourced, is_running}
use Rattle.sources.specs.Planned.{planned_if}

-- the columns c and v hold the entries es from the front
pub record EntriesHeld (es : List Effect) (c : List (List ℕ)) (v : List Float) : Type 0 where
  pub long : length es ≤ length c
  pub wide : length es ≤ length v
  pub each : (i : ℕ) (d : Effect) → i < length es → EntryHeld (get_or es i d) (get_or c i []) (get_or v i nan)
  pub sourced : (i : ℕ) (d : Effect) → i < length es → Sourced (get_or es i d).origin

-- the entries from first on, so many, are there
pub record Ranged (c : List (List ℕ)) (v : List Float) (first count : ℕ) : Type 0 where
  pub entries : List Effect
  pub held : EntriesHeld entries c v
  pub inside : first + count ≤ length entries

-- an entry's source rows, by the states
abbrev pub planned_by : List (List ℕ) → Effect → ℕ
planned_by states e = planned_if (is_running states e.origin) e

-- those of a run of entries
abbrev pub planned_in : List (List ℕ) → List Effect → ℕ → ℕ → ℕ
planned_in states es first count = total (map (planned_by states) (span first count es))
