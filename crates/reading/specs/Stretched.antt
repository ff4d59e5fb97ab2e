-- Where each object's rows stand in list 2, and which attributes may have a limit. Definitions only.
use Rattle.std.specs.Prelude.{ℕ, ◌≤◌, ◌<◌, ◌%◌, ◌≡◌, List, [], ℤ, pos, length, get_or}
use Rattle.rules.specs.Bytes.{bits}
use Rattle.rules.specs.Dispatch.{Row}
use Rattle.rules.specs.Info.{get_dogma_attribute}
use Rattle.rules.specs.Sheet.{Book}
use Rattle.reading.specs.Held.{no_row}

-- the rows from first to end are of object o
abbrev pub OfObject : ℕ → List Row → ℕ → ℕ → Type 0
OfObject o rs first end = (i : ℕ) → first ≤ i → i < end → (get_or rs i no_row).object ≡ o

-- of each object its first row, and the row past its last
pub record Stretched (rs : List Row) (c : List (List ℕ)) : Type 0 where
  pub inside : (o : ℕ) → o < 1024 → (get_or (get_or c o []) 0 0 ≤ get_or (get_or c o []) 1 0) × (get_or (get_or c o []) 1 0 ≤ length rs)
  pub before : (o i : ℕ) → o < 1024 → i < get_or (get_or c o []) 0 0 → (get_or rs i no_row).object < o
  pub own : (o : ℕ) → o < 1024 → OfObject o rs (get_or (get_or c o []) 0 0) (get_or (get_or c o []) 1 0)
  pub after : (o i : ℕ) → o < 1024 → i < length rs → get_or (get_or c o []) 1 0 ≤ i → o < (get_or rs i no_row).object

-- of the rows from first on, those before end are of objects up to o, and the next is of a later one
pub record Past (c : List (List ℕ)) (o first end : ℕ) : Type 0 where
  pub within : first ≤ end
  pub inside : end ≤ length c
  pub up_to : (i : ℕ) → first ≤ i → i < end → get_or (get_or c i []) 0 0 ≤ o
  pub next : end < length c → o < get_or (get_or c end []) 0 0

-- attribute a has no limit
abbrev pub Unlimited : Book → ℤ → Type 0
Unlimited k a = ((get_dogma_attribute k a).min_attribute_id ≡ pos 0) × ((get_dogma_attribute k a).max_attribute_id ≡ pos 0)

-- an attribute whose number is not marked has no limit; ids are counted modulo 1,024
pub record Limits (k : Book) (c : List ℕ) : Type 0 where
  pub least : (a : ℤ) → get_or c (bits a % 1024) 0 ≡ 0 → (get_dogma_attribute k a).min_attribute_id ≡ pos 0
  pub most : (a : ℤ) → get_or c (bits a % 1024) 0 ≡ 0 → (get_dogma_attribute k a).max_attribute_id ≡ pos 0
