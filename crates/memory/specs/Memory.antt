-- How the memory may change: a row that is started keeps its value and its source rows, but for the row that is calculated. Definitions only.
use Rattle.std.specs.Prelude.{ℕ, ◌≡◌, List, map, T, Float, ℤ, length, get_or}
use Rattle.std.proofs.Math.Option
use Rattle.std.proofs.Math.Option.{Option, none, some}
use Rattle.std.specs.Float.{nan}
use Rattle.laws.specs.Floats.{finite}
use Rattle.rules.specs.Answer.{Res, ok}
use Rattle.rules.specs.Value.{Mem, Read, Reader, own_sources}

abbrev pub value_at : Mem → ℕ → Option Float
value_at m j = get_or m.values j none

-- the values as a column: NaN until a row is started
abbrev pub value_column : List (Option Float) → List Float
value_column vs = map (λ (o : Option Float). Option.get_or o nan) vs

-- every value there is finite
abbrev pub AllFinite : List (Option Float) → Type 0
AllFinite vs = (j : ℕ) (x : Float) → get_or vs j none ≡ some x → T (finite x)

-- what is started keeps its value
abbrev pub KeepsValues : Mem → Mem → Type 0
KeepsValues m m' = (j : ℕ) (v : Float) → value_at m j ≡ some v → value_at m' j ≡ some v

-- what is started stays as it is
pub record Grows (m m' : Mem) : Type 0 where
  pub values : length m'.values ≡ length m.values
  pub sources : length m'.sources ≡ length m.sources
  pub value : KeepsValues m m'
  pub own : (j : ℕ) (v : Float) → value_at m j ≡ some v → own_sources j m' ≡ own_sources j m

-- the same, but for the source rows of row i
pub record GrowsBut (i : ℕ) (m m' : Mem) : Type 0 where
  pub values : length m'.values ≡ length m.values
  pub sources : length m'.sources ≡ length m.sources
  pub value : KeepsValues m m'
  pub own : (j : ℕ) (v : Float) → (j ≡ i → ⊥) → value_at m j ≡ some v → own_sources j m' ≡ own_sources j m

-- a reader under which the memory grows
abbrev pub GrowingReader : Reader → Type 0
GrowingReader read = (o : ℕ) (a : ℤ) (m : Mem) (q : Read) → read o a m ≡ ok q → Grows m q.mem
