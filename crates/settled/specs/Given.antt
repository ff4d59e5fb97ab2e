-- A row's value from values that are given: 01's rules for one row, nothing calculated for its needs. Definitions only.
use Rattle.std.specs.Prelude.{ℕ, ◌<◌, ◌≡◌, Bool, true, false, List, [], ◌∷◌, Float, ℤ, length, get_or}
use Rattle.std.proofs.Math.Option.{Option, none, some}
use Rattle.rules.specs.Answer.{Res, ok, refused, ◌>>=◌}
use Rattle.rules.specs.Dispatch.{Row}
use Rattle.rules.specs.Info.{get_dogma_attribute}
use Rattle.rules.specs.Item.{runs_at}
use Rattle.rules.specs.Outcome.{blank}
use Rattle.rules.specs.Value.{World, Mem, Reader, state_of, find_row, resisted, calculate}
use Rattle.rules.specs.Fresh.{unrecorded, forgetful}
use Rattle.rules.specs.declared.Effect.{Effect}
use Rattle.rules.specs.declared.Origin.{Origin}
use Rattle.rules.specs.declared.Origin.TheVariants as origin
use Rattle.rules.specs.declared.Refusal.TheVariants.{Depth}
use Rattle.promises.specs.NoMemory.{no_row}

-- "from the other listed values": an absent attribute's default, or its row's value, if one is given
unfoldable pub listed_reader : World → List (Option Float) → ℕ → ℤ → Res Float
listed_reader w vs o a = elim (find_row o a 0 w.rows) [
  | none ↦ ok (get_dogma_attribute w.book a).default_value
  | some f ↦ elim (get_or vs f.index none) [ some v ↦ ok v | none ↦ refused (Depth o) ]
]

module _ (w : World) (read : Reader) (i : ℕ) (row : Row) where
  -- "steps, recorded rows' too": an entry that does not run is read all the same, and held against the ship's resistance
  unfoldable pub idle : Effect → Origin → Mem → Res Unit
  idle e (origin.Buff b v) m = ok tt
  idle e (origin.Effect f source c a) m = elim (runs_at c (state_of w source)) [
    | true ↦ ok tt
    | false ↦ (read source a m >>= λ r. resisted w i row read e.resistance r >>= λ s. ok tt)
  ]

  unfoldable pub idles : List Effect → Mem → Res Unit
  idles [] m = ok tt
  idles (e ∷ es) m = idle e e.origin m >>= λ t. idles es m

-- a test that counts where the sheet records
abbrev pub where_recorded : Bool → Res Unit → Res Unit
where_recorded false x = ok tt
where_recorded true x = x

-- "each value is what 01's rules give from the other listed values": one row's calculation over the listing; where the sheet records,
-- "a value whose steps, recorded rows' too, are not finite being wrong", its idle entries are read too
unfoldable pub given : World → List (Option Float) → ℕ → Row → Res Float
given w vs i row = do
  let u = unrecorded w
  let read = forgetful (listed_reader w vs)
  r ← calculate u read i row (blank w.rows)
  _ ← where_recorded w.recording (idles u read i row row.entries (blank w.rows))
  ok r.value

-- row i has a value, and it is what the rules give from the others
pub record RightAt (w : World) (vs : List (Option Float)) (i : ℕ) : Type 0 where
  pub value : Float
  pub listed : get_or vs i none ≡ some value
  pub is : given w vs i (get_or w.rows i no_row) ≡ ok value

-- a listing that is accepted: as many values as rows, each of them right
pub record Accepted (w : World) (vs : List (Option Float)) : Type 0 where
  pub long : length vs ≡ length w.rows
  pub right : (i : ℕ) → i < length w.rows → RightAt w vs i
