-- The words of M-111's promises. Definitions only.
use Rattle.std.specs.Prelude.{ℕ, ◌≤◌, ◌≡◌, Bool, true, List, map}
use Rattle.std.proofs.Math.Option.{none}
use Rattle.rules.specs.Answer.{Res, ok, refused}
use Rattle.rules.specs.Dispatch.{Key}
use Rattle.rules.specs.Fresh.{LeadsBack}
use Rattle.rules.specs.Outcome.{Rooms, Done, world_of}
use Rattle.rules.specs.Shape.{bad_shape}
use Rattle.rules.specs.Value.{World}
use Rattle.rules.specs.declared.Refusal.TheVariants.{Room}
use Rattle.promises.specs.NoMemory.{key_of, book_in, fit_in}
use Rattle.run.specs.Listing.{lists_in}
use Rattle.settled.specs.Lines.{Line, values_of}

-- what a sheet's values are calculated from
abbrev pub world_at : List ℕ → World
world_at b = world_of (book_in b) (fit_in b) 0

-- SHAPE to dispatch refuse nothing
pub record Dispatched (b : List ℕ) (q : Rooms) : Type 0 where
  pub shape : bad_shape b ≡ none
  pub lists : lists_in (book_in b) (fit_in b) q ≡ ok tt

-- an attribute leads back to itself "as demand 3 counts it", and o is the lowest object that has such a one
pub record Lowest (w : World) (o : ℕ) : Type 0 where
  pub key : Key
  pub back : LeadsBack w key
  pub owner : key.object ≡ o
  pub least : (a : Key) → LeadsBack w a → o ≤ a.object

-- the lines are those of a run: its rows, one by one, with their values
pub record IsListing (ls : List Line) (d : Done) : Type 0 where
  pub keys : map (λ l. l.key) ls ≡ map key_of d.rows
  pub values : values_of ls ≡ d.values

-- done with these lines; or, where source rows are recorded, too few are lent
pub data DoneWith (ls : List Line) (recording : Bool) : Res Done → Type 0 where
  listed : {d : Done} → IsListing ls d → DoneWith ls recording (ok d)
  no_room : recording ≡ true → DoneWith ls recording (refused (Room 5))
