-- A fit's file with at least the depth; what values are calculated from, of a book and a fit. Definitions only.
use Rattle.std.specs.Prelude.{ℕ, ◌≤◌, ◌≡◌, List, length, take, drop}
use Rattle.rules.specs.Bytes.{u32_at}
use Rattle.rules.specs.Files.{pairs_in}
use Rattle.rules.specs.Outcome.{Lent, rooms_of, world_of}
use Rattle.rules.specs.Sheet.{Book, Fit, book_of, fit_of}
use Rattle.rules.specs.Value.{World}

-- g is f but for the depth, bytes 40 to 43, which is within its bounds in both
pub record DeeperFit (f g : List ℕ) : Type 0 where
  pub front : take 40 g ≡ take 40 f
  pub back : drop 44 g ≡ drop 44 f
  pub long : length g ≡ length f
  pub least : 1 ≤ u32_at f 40
  pub more : u32_at f 40 ≤ u32_at g 40
  pub most : u32_at g 40 ≤ 256

-- the book and the fit that two files are read as
abbrev pub book_from : List ℕ → List ℕ → Book
book_from k f = book_of k (pairs_in k f)

abbrev pub fit_from : List ℕ → List ℕ → Fit
fit_from k f = fit_of f (pairs_in k f)

abbrev pub world_from : List ℕ → List ℕ → Lent → World
world_from k f l = world_of (book_from k f) (fit_from k f) (rooms_of l).sources
