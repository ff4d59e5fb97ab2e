-- Rows and entries as they stand in the columns, and what is read off them. Definitions only.
use Rattle.std.specs.Prelude.{ℕ, ◌<◌, ◌≡◌, Bool, true, not, ◌&&◌, cond, List, [], ◌∷◌, eqb, ltb, ℤ, pos, Float, length, get_or}
use Rattle.std.proofs.Math.Option.{Option, none, some}
use Rattle.std.specs.Int.Signed.{lt_z}
use Rattle.std.specs.Int.{w32}
use Rattle.std.proofs.Common.{SFits}
use Rattle.laws.specs.Lists.{eq_z, every?}
use Rattle.laws.specs.Floats.{zero_f}
use Rattle.rules.specs.Bytes.{bits}
use Rattle.rules.specs.Item.{runs_at}
use Rattle.rules.specs.Dispatch.{Row}
use Rattle.rules.specs.Value as defined
use Rattle.rules.specs.Columns.{entry_numbers, origin_value}
use Rattle.rules.specs.declared.Effect.{Effect}
use Rattle.rules.specs.declared.Origin.{Origin}
use Rattle.rules.specs.declared.Origin.TheVariants as origin
use Rattle.info.specs.Stands.{NarrowOrigin, NarrowId}

-- ---- rows

-- past the last row there is none
abbrev pub no_row : Row
no_row = record { object = 0; id = pos 0; base = zero_f; entries = [] }

-- attribute x of object p stands before attribute a of object o; is it
abbrev pub is_before : ℕ → ℤ → ℕ → ℤ → Bool
is_before p x o a = cond (eqb p o) (lt_z x a) (ltb p o)

abbrev pub is_of : ℕ → ℤ → ℕ → ℤ → Bool
is_of p x o a = eqb p o && eq_z x a

-- the same of a row
abbrev pub row_before : ℕ → ℤ → Row → Bool
row_before o a r = is_before r.object r.id o a

abbrev pub row_of : ℕ → ℤ → Row → Bool
row_of o a r = is_of r.object r.id o a

-- each row stands before all that follow
abbrev pub ascending : List Row → Bool
ascending [] = true
ascending (r ∷ rs) = every? (λ s. row_before s.object s.id r) rs && ascending rs

-- the rows' ids have 32 bits
abbrev pub NarrowIds : List Row → Type 0
NarrowIds rs = (i : ℕ) → i < length rs → SFits w32 (get_or rs i no_row).id

-- list 2 has the rows rs, in order: what is looked for in it
pub record RowsHeld (rs : List Row) (c : List (List ℕ)) : Type 0 where
  pub long : length c ≡ length rs
  pub object : (i : ℕ) → i < length rs → get_or (get_or c i []) 0 0 ≡ (get_or rs i no_row).object
  pub id : (i : ℕ) → i < length rs → get_or (get_or c i []) 1 0 ≡ bits (get_or rs i no_row).id
  pub narrow : NarrowIds rs
  pub ordered : ascending rs ≡ true

abbrev pub index_of : Option defined.Found → Option ℕ
index_of none = none
index_of (some f) = some f.index

-- ---- entries

-- e stands in list 3 as these numbers and the value beside them
pub record EntryHeld (e : Effect) (row : List ℕ) (v : Float) : Type 0 where
  pub numbers : row ≡ entry_numbers e
  pub value : v ≡ origin_value e.origin
  pub origin : NarrowOrigin e.origin
  pub resistance : NarrowId e.resistance

-- the source is one of at most 1,024 objects
abbrev pub Sourced : Origin → Type 0
Sourced (origin.Effect e o c a) = o < 1024
Sourced (origin.Buff b v) = Unit {0}

-- an effect runs by its source's state in the column; a buff always does
abbrev pub is_running : List (List ℕ) → Origin → Bool
is_running states (origin.Effect e o c a) = runs_at c (get_or (get_or states o []) 0 0)
is_running states (origin.Buff b v) = true

-- an entry's operator has the code
abbrev pub has_code : ℕ → List ℕ → Bool
has_code code e = eqb (get_or e 6 0) code

-- the code has a mark
abbrev pub is_marked : List ℕ → ℕ → Bool
is_marked marks code = not (eqb (get_or marks code 0) 0)
