-- What the columns hold while a listing is judged, and what a line's value is held against. Definitions only.
use Rattle.std.specs.Prelude.{ℕ, ◌+◌, ◌*◌, ◌≡◌, Bool, true, false, List, [], map, T, Float, length, get_or, None, Some, Result, Ok, Err}
use Rattle.std.proofs.Math.Option
use Rattle.std.proofs.Math.Option.{Option}
use Rattle.std.specs.Option.{is_some}
use Rattle.std.specs.Float.{nan, binary64}
use Rattle.std.specs.Float.Ieee.{eq, of_bits}
use Rattle.columns.specs.Lending.{LentColumn}
use Rattle.rules.specs.declared.Refusal.{Refusal}
use Rattle.rules.specs.Answer.{Res, ok, refused}
use Rattle.laws.specs.Floats.{finite}
use Rattle.rules.specs.Number.{times}
use Rattle.rules.specs.Outcome.{blank}
use Rattle.rules.specs.Value.{World, Read, Reader, calculate}
use Rattle.rules.specs.Fresh.{unrecorded, forgetful}
use Rattle.rules.specs.Ids.{OptionalId}
use Rattle.promises.specs.NoMemory.{NoLoop}
use Rattle.sources.specs.declared.Recording.{Recording}
use Rattle.memory.specs.Holding.{Tables, Tells}
use Rattle.memory.specs.Memory.{value_column, AllFinite}
use Rattle.memory.specs.Steps.{row_at}
use Rattle.memory.specs.declared.apply.Got.{Got}
use Rattle.std.specs.Prelude as code
use Rattle.rules.specs.Dispatch.{Key}
use Rattle.settled.specs.Given.{listed_reader}
use Rattle.settled.specs.Lines.{line_of, finite_only}

-- ---- a line as it is lent

abbrev pub key_in : List ℕ → Key
key_in r = (line_of r).key

-- its value by the halves of its bits, or NaN where it has none
abbrev pub shown_bits : ℕ → ℕ → Float
shown_bits low high = Option.get_or (finite_only (of_bits binary64 (low + 4294967296 * high))) nan

abbrev pub shown_in : List ℕ → Float
shown_in r = shown_bits (get_or r 2 0) (get_or r 3 0)

-- ---- the columns

-- nothing is recorded, and list 5 has no room
abbrev pub off : Recording
off = record { room = 0; recording = false }

-- the columns that are only read hold a world without a loop; v has the listed values, and NaN where a line has none
pub record Judged (t : Tables) (v : List Float) : Type 0 where
  pub world : World
  pub values : List (Option Float)
  pub told : Tells (unrecorded world) [] [] t off
  pub free : NoLoop world
  pub column : v ≡ value_column values
  pub numbers : AllFinite values
  pub long : length values ≡ length world.rows

-- the same before any value is listed: v has an element for each row
pub record Awaits (t : Tables) (v : List Float) : Type 0 where
  pub world : World
  pub told : Tells (unrecorded world) [] [] t off
  pub free : NoLoop world
  pub long : length v ≡ length world.rows

-- the listing as a reader that keeps nothing
abbrev pub looks : World → List (Option Float) → Reader
looks w vs = forgetful (listed_reader w vs)

-- one row's calculation over the listing
abbrev pub calculated_from : World → List (Option Float) → ℕ → Res Read
calculated_from w vs i = calculate (unrecorded w) (looks w vs) i (row_at w i) (blank w.rows)

-- an answer has that value, a number, or there is none
abbrev pub GotIs : Res Read → Result Got Refusal → Type 0
GotIs (ok q) (Ok g) = (g.value ≡ q.value) × T (finite g.value)
GotIs (ok q) (Err z) = ⊥
GotIs (refused y) (Ok g) = ⊥
GotIs (refused y) (Err z) = Unit {0}

-- with a value the column is as it was; after a refusal it may hold anything
abbrev pub RestoredAs : Result Got Refusal → List Float → List Float → Type 0
RestoredAs (Ok g) v v' = v' ≡ v
RestoredAs (Err z) v v' = Unit {0}

abbrev pub Restored : Result Got Refusal → LentColumn Float → Type 0
Restored r v = RestoredAs r v.entry.now v.exit.now

-- the same of a test, and of a search for what is wrong
abbrev pub KeptIfAs : Bool → List Float → List Float → Type 0
KeptIfAs true v v' = v' ≡ v
KeptIfAs false v v' = Unit {0}

abbrev pub KeptIf : Bool → LentColumn Float → Type 0
KeptIf r v = KeptIfAs r v.entry.now v.exit.now

-- where no line is bad the column has the listed values
abbrev pub LaidUnless : code.Option ℕ → List (List ℕ) → List Float → Type 0
LaidUnless None ls v = v ≡ map shown_in ls
LaidUnless (Some i) ls v = Unit {0}

abbrev pub KeptUnlessAs : code.Option ℕ → List Float → List Float → Type 0
KeptUnlessAs None v v' = v' ≡ v
KeptUnlessAs (Some i) v v' = Unit {0}

abbrev pub KeptUnless : code.Option ℕ → LentColumn Float → Type 0
KeptUnless r v = KeptUnlessAs r v.entry.now v.exit.now

-- a value, or NaN where there is none
abbrev pub float_in : Res Float → Float
float_in (ok v) = v
float_in (refused y) = nan

-- a strength that is there stands against the ship's resistance, where one is named
abbrev pub held_up : World → List (Option Float) → OptionalId → Float → Bool
held_up w vs None v = eq v v
held_up w vs (Some a) v = is_some (times v (float_in (listed_reader w vs 0 a)))

abbrev pub is_ok : {A : Type 0} → Res A → Bool
is_ok (ok a) = true
is_ok (refused y) = false
