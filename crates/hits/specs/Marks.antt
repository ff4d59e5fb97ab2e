-- Marks of the skills that objects require, by their numbers modulo 1,024. Definitions only.
use Rattle.std.specs.Prelude.{ℕ, ◌<◌, ◌%◌, ◌≡◌, List, [], length, get_or}
use Rattle.rules.specs.Sheet.{Fit}
use Rattle.rules.specs.Item.{object}
use Rattle.hits.specs.Reach.{required_bits}

-- the first n skills of a row are marked
abbrev pub Marked : ℕ → List ℕ → List ℕ → Type 0
Marked n marks row = (k : ℕ) → k < n → get_or marks (get_or row k 0 % 1024) 0 ≡ 1

-- no mark is lost
abbrev pub Kept : List ℕ → List ℕ → Type 0
Kept marks₀ marks = (m : ℕ) → get_or marks₀ m 0 ≡ 1 → get_or marks m 0 ≡ 1

-- the marks since they were marks₀, with those of the first n skills of a row
pub record Marking (marks₀ marks row : List ℕ) (n : ℕ) : Type 0 where
  pub long : length marks ≡ 1024
  pub kept : Kept marks₀ marks
  pub marked : Marked n marks row

-- the six skills of each of the first n rows are marked
pub record AllMarked (n : ℕ) (marks : List ℕ) (rows : List (List ℕ)) : Type 0 where
  pub long : length marks ≡ 1024
  pub at : (i : ℕ) → i < n → Marked 6 marks (get_or rows i [])

-- the skills that the objects of a sheet require are marked
pub record Wanted (f : Fit) (marks : List ℕ) : Type 0 where
  pub at : (i : ℕ) → i < length f.objects → Marked 6 marks (required_bits f (object f i))
