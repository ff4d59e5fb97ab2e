-- Demand 3, no memory: the words of its statements.
use Rattle.std.specs.Prelude.{ℕ, ◌<◌, ◌≡◌, true, List, [], T, Float, pos, length, get_or}
use Rattle.std.proofs.Math.Option.{none, some}
use Rattle.laws.specs.Lists.{some?}
use Rattle.laws.specs.Floats.{zero_f}
use Rattle.rules.specs.Answer.{ok}
use Rattle.rules.specs.Bytes.{pairs_of}
use Rattle.rules.specs.Sheet.{Book, Fit, book_of, fit_of}
use Rattle.rules.specs.Shape.{objects_good, bases_good}
use Rattle.rules.specs.Item.{object}
use Rattle.rules.specs.Dispatch.{Row, Key, same_key}
use Rattle.rules.specs.Value.{World}
use Rattle.rules.specs.Outcome.{Lent, Done, rooms_of, world_of}
use Rattle.rules.specs.Fresh.{fresh, needs_at, LeadsBack}

-- a row's object and attribute
abbrev pub key_of : Row → Key
key_of r = record { object = r.object; id = r.id }

abbrev pub no_row : Row
no_row = record { object = 0; id = pos 0; base = zero_f; entries = [] }

-- of row j
abbrev pub key_at : World → ℕ → Key
key_at w j = key_of (get_or w.rows j no_row)

-- a needs b directly
abbrev pub Needs : World → Key → Key → Type 0
Needs w a b = T (some? (same_key b) (needs_at w a))

-- no attribute leads back to itself
abbrev pub NoLoop : World → Type 0
NoLoop w = (a : Key) → LeadsBack w a → ⊥

-- what a sound sheet says of its fit's objects: they and their base attributes are good, and they go by number
pub record Sound (f : Fit) : Type 0 where
  pub objects : objects_good f ≡ true
  pub bases : bases_good f ≡ true
  pub numbered : (j : ℕ) → j < length f.objects → (object f j).number ≡ j

-- row i of a run has a value, and it is the one that the rules give with no memory
pub record Memoryless (w : World) (d : Done) (i : ℕ) : Type 0 where
  pub value : Float
  pub has : get_or d.values i none ≡ some value
  pub is : fresh w (get_or d.rows i no_row).object (get_or d.rows i no_row).id ≡ ok value

-- two fits that may differ in depth, recording and asks alone
pub record SameButAsks (f g : Fit) : Type 0 where
  pub objects : f.objects ≡ g.objects
  pub bases : f.bases ≡ g.bases
  pub ids : f.ids ≡ g.ids
  pub buffs : f.buffs ≡ g.buffs

-- what values are calculated from, of any bytes
abbrev pub book_in : List ℕ → Book
book_in b = book_of b (pairs_of b)

abbrev pub fit_in : List ℕ → Fit
fit_in b = fit_of b (pairs_of b)

abbrev pub world_in : List ℕ → Lent → World
world_in b l = world_of (book_in b) (fit_in b) (rooms_of l).sources
