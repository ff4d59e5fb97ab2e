-- What the reading functions ask of the bytes: that the tables lie inside, and, for look-ups, that they are well formed.
use Rattle.std.specs.Prelude.{ℕ, ◌+◌, ◌*◌, ◌≤◌, ◌≡◌, List, map, true, length, get_or}
use Rattle.laws.specs.Lists.{ascends}
use Rattle.rules.specs.declared.Item.{Item}
use Rattle.std.proofs.Math.Option.{none}
use Rattle.rules.specs.Bytes.{count_of, offset_of, width_of, limit_of, categories_at, depth_at}
use Rattle.rules.specs.Sheet.{Fit, book_of, fit_of, bases_of}
use Rattle.rules.specs.Shape.{book_bad, fit_bad}

-- table t lies inside the bytes, with at most its most records
pub record Held (b : List ℕ) (pairs : List (List ℕ)) (t : ℕ) : Type 0 where
  pub within : offset_of pairs t + width_of t * count_of pairs t ≤ length b
  pub few : count_of pairs t ≤ limit_of t

-- the header and tables 1 to 5
pub record HeldBook (b : List ℕ) (pairs : List (List ℕ)) : Type 0 where
  pub header : categories_at pairs + 12 ≤ length b
  pub attributes : Held b pairs 1
  pub effects : Held b pairs 2
  pub modifiers : Held b pairs 3
  pub type_effects : Held b pairs 4
  pub buff_collections : Held b pairs 5

-- the header and tables 6 to 10
pub record HeldFit (b : List ℕ) (pairs : List (List ℕ)) : Type 0 where
  pub header : depth_at pairs + 8 ≤ length b
  pub objects : Held b pairs 6
  pub bases : Held b pairs 7
  pub ids : Held b pairs 8
  pub buffs : Held b pairs 9
  pub asks : Held b pairs 10

-- and no table of the book is bad
pub record SoundBook (b : List ℕ) (pairs : List (List ℕ)) : Type 0 where
  pub held : HeldBook b pairs
  pub good : book_bad (book_of b pairs) ≡ none

-- and no table of the fit is bad
pub record SoundFit (b : List ℕ) (pairs : List (List ℕ)) : Type 0 where
  pub held : HeldFit b pairs
  pub good : fit_bad (fit_of b pairs) ≡ none

-- an object's base attributes lie inside their table and ascend
pub record Based (f : Fit) (o : Item) : Type 0 where
  pub within : o.first_attribute + o.attributes ≤ length f.bases
  pub ordered : ascends (map (λ r. r.attribute_id) (bases_of f o)) ≡ true

-- x is element i of l
abbrev pub Nth : {A : Type 0} → List A → ℕ → A → Type 0
Nth {A} l i x = (d : A) → x ≡ get_or l i d
