-- The pieces of a listing, one after another, and how long a piece is at most.
use Rattle.std.specs.Prelude.{ℕ, ◌<◌, ◌≡◌, List, [], ◌++◌, Float, length, take, get_or}
use Rattle.std.specs.Int.{w32}
use Rattle.std.proofs.Common.{to_z}
use Rattle.rules.specs.Answer.{Res, ok, number, place, answer_of}
use Rattle.rules.specs.Dispatch.{Row}
use Rattle.rules.specs.Outcome.{Done}
use Rattle.rules.specs.Columns.{value_list}
use Rattle.rules.specs.Listing.{ascii, natural, lines}

-- no head or line has more bytes
abbrev pub longest : ℕ
longest = 40

-- no refusal has more bytes
abbrev pub longest_refusal : ℕ
longest_refusal = 50

-- the first line of a listing of n rows
unfoldable pub head_of : ℕ → List ℕ
head_of n = ascii "rows " ++ (natural n ++ ascii "\n")

-- the head and the lines of the first k rows
unfoldable pub printed : Done → ℕ → List ℕ
printed d k = head_of (length d.rows) ++ lines (take k d.rows) (take k (value_list (ok d)))

-- the columns begin with the n rows of what is done
pub record Shown (d : Done) (n : ℕ) (rows : List (List ℕ)) (values : List Float) : Type 0 where
  pub count : n ≡ length d.rows
  pub valued : n ≡ length (value_list (ok d))
  pub object : (i : ℕ) (r : Row) → i < n → (get_or d.rows i r).object ≡ get_or (get_or rows i []) 0 0
  pub id : (i : ℕ) (r : Row) → i < n → (get_or d.rows i r).id ≡ to_z w32 (get_or (get_or rows i []) 1 0)
  pub value : (i : ℕ) (v : Float) → i < n → get_or (value_list (ok d)) i v ≡ get_or values i v

-- what came back tells of an outcome: its number and place and, where it is done, its n rows and their values
pub record Tells (o : Res Done) (number₀ place₀ n : ℕ) (rows : List (List ℕ)) (values : List Float) : Type 0 where
  pub by_number : number₀ ≡ number (answer_of o)
  pub by_place : place₀ ≡ place (answer_of o)
  pub by_rows : (d : Done) → o ≡ ok d → Shown d n rows values
