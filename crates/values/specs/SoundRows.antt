-- What a sound sheet says of its collected effects, of its rows and of their entries. Definitions only.
use Rattle.std.specs.Prelude.{ℕ, ◌<◌, ◌≡◌, true, List, [], ◌∷◌, T, length, get_or}
use Rattle.std.specs.Int.{w32}
use Rattle.std.proofs.Common.{SFits}
use Rattle.laws.specs.Floats.{finite}
use Rattle.rules.specs.Columns.{origin_value}
use Rattle.rules.specs.Dispatch.{Row}
use Rattle.rules.specs.declared.Effect.{Effect}
use Rattle.rules.specs.declared.Pass2Effect.{Pass2Effect}
use Rattle.info.specs.Stands.{NarrowOrigin, NarrowId}
use Rattle.reading.specs.Held.{Sourced, no_row, NarrowIds, ascending}
use Rattle.memory.specs.Holding.{Good}

-- what holds of every element
abbrev pub AllAre : {A : Type 0} → (A → Type 0) → List A → Type 0
AllAre P [] = Unit {0}
AllAre P (x ∷ xs) = P x × AllAre P xs

-- a collected effect: its ids have 32 bits, its source is an object, and what a buff gives is finite
pub record Fair (t : Pass2Effect) : Type 0 where
  pub attribute : SFits w32 t.target_attribute_id
  pub origin : NarrowOrigin t.origin
  pub resistance : NarrowId t.resistance
  pub sourced : Sourced t.origin
  pub valued : T (finite (origin_value t.origin))

-- the entry that comes of it
pub record Readable (e : Effect) : Type 0 where
  pub good : Good e
  pub origin : NarrowOrigin e.origin
  pub resistance : NarrowId e.resistance

pub record SoundRows (rs : List Row) : Type 0 where
  pub ordered : ascending rs ≡ true
  pub narrow : NarrowIds rs
  pub number : (i : ℕ) → i < length rs → T (finite (get_or rs i no_row).base)
  pub object : (i : ℕ) → i < length rs → (get_or rs i no_row).object < 1024
  pub entries : (i j : ℕ) (d : Effect) → i < length rs → j < length (get_or rs i no_row).entries → Readable (get_or (get_or rs i no_row).entries j d)
