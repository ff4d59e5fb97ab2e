-- Rows that are valued, with all their source rows, and what the columns hold in the end. Definitions only.
use Rattle.std.specs.Prelude.{ℕ, ◌<◌, ◌≡◌, List, [], map, Float, ℤ, length, get_or}
use Rattle.std.proofs.Math.Option
use Rattle.std.proofs.Math.Option.{Option, none, some}
use Rattle.laws.specs.Lists.{flat, total}
use Rattle.laws.specs.Columns.{Col}
use Rattle.laws.specs.Floats.{zero_f}
use Rattle.rules.specs.Answer.{ok}
use Rattle.rules.specs.Dispatch.{Row}
use Rattle.rules.specs.Columns.{rows_numbers, source_numbers, source_floats}
use Rattle.rules.specs.Value.{World, Mem, Read, Reader, own_sources}
use Rattle.rules.specs.declared.Ask.{Ask}
use Rattle.rules.specs.declared.Source.{Source}
use Rattle.reading.specs.Held.{no_row}
use Rattle.sources.specs.Planned.{counts_of}
use Rattle.sources.specs.Rows.{planned_numbers}
use Rattle.memory.specs.Memory.{value_at}

-- ---- the memory

-- it has a value and source rows for each row
pub record Long (w : World) (m : Mem) : Type 0 where
  pub values : length m.values ≡ length w.rows
  pub sources : length m.sources ≡ length w.rows

-- row i has a value
pub record HasValue (m : Mem) (i : ℕ) : Type 0 where
  pub value : Float
  pub is : value_at m i ≡ some value

-- each row has one
abbrev pub AllValued : World → Mem → Type 0
AllValued w m = (i : ℕ) → i < length w.rows → HasValue m i

-- a row without a value has no source rows; one with a value has all that are planned
abbrev pub Clean : Mem → Type 0
Clean m = (i : ℕ) → value_at m i ≡ none → own_sources i m ≡ []

abbrev pub Complete : World → Mem → Type 0
Complete w m = (i : ℕ) (v : Float) → value_at m i ≡ some v → length (own_sources i m) ≡ get_or (counts_of w) i 0

pub record Whole (w : World) (m : Mem) : Type 0 where
  pub long : Long w m
  pub clean : Clean m
  pub complete : Complete w m

-- the source rows are counted
abbrev pub UsedTotal : Mem → Type 0
UsedTotal m = m.used ≡ total (map length m.sources)

-- what reading keeps
abbrev pub Keeps : (Mem → Type 0) → Reader → Type 0
Keeps P read = (o : ℕ) (a : ℤ) (m : Mem) (q : Read) → read o a m ≡ ok q → P m → P q.mem

-- ---- the starts

abbrev pub ask_of : Row → Ask
ask_of r = record { object = r.object; attribute_id = r.id }

-- an ask is one of the starts
pub record Among (starts : List Ask) (a : Ask) : Type 0 where
  pub at : ℕ
  pub inside : at < length starts
  pub is : get_or starts at (ask_of no_row) ≡ a

-- every row is asked for
abbrev pub AllAsked : World → List Ask → Type 0
AllAsked w starts = (i : ℕ) → i < length w.rows → Among starts (ask_of (get_or w.rows i no_row))

-- ---- the columns

abbrev pub all_sources : Mem → List Source
all_sources m = flat (λ x. x) m.sources

-- v the values, s and f list 5, which were s₀ and f₀: they hold what the memory m has
pub record Ended (w : World) (s₀ : List (List ℕ)) (f₀ : List (List Float)) (m : Mem) (v : List Float) (s : List (List ℕ)) (f : List (List Float)) (used : ℕ) : Type 0 where
  pub values : v ≡ map (λ (o : Option Float). Option.get_or o zero_f) m.values
  pub numbers : Col source_numbers (all_sources m) s₀ s
  pub floats : Col source_floats (all_sources m) f₀ f
  pub count : used ≡ length (all_sources m)
  pub rows : planned_numbers 0 0 w.rows (counts_of w) ≡ rows_numbers 0 0 w.rows m.sources
