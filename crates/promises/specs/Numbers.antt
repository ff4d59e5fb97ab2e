-- An entry's collection number, "its effect's row in list 1": the words of what is said of it. Definitions only.
use Rattle.std.specs.Prelude.{ℕ, ◌+◌, ◌≤◌, ◌<◌, ◌≡◌, Bool, true, ◌&&◌, List, [], ◌∷◌, ltb, get_or}
use Rattle.laws.specs.Lists.{every?}
use Rattle.laws.specs.Floats.{zero_f}
use Rattle.promises.specs.Given.{cell}
use Rattle.promises.specs.Result.{Result}

-- numbers that ascend strictly: each is below all that follow
abbrev pub climbs : List ℕ → Bool
climbs [] = true
climbs (n ∷ r) = every? (ltb n) r && climbs r

-- number 11 of the entry at place p of list 3
abbrev pub number_at : Result → ℕ → ℕ
number_at r p = cell r.entries p 11

-- place p of list 3 is row i's: numbers 2 and 3 of the row say which are
pub record Owns (r : Result) (i p : ℕ) : Type 0 where
  pub row : i < r.counts.rows
  pub from : cell r.rows i 2 ≤ p
  pub below : p < cell r.rows i 2 + cell r.rows i 3

-- "within a row the numbers ascend strictly"
abbrev pub Ascending : Result → Type 0
Ascending r = (i p q : ℕ) → Owns r i p → Owns r i q → p < q → number_at r p < number_at r q

-- the number of the entry at place p is that of its effect: what both rows have is the same, and the entry's row is of the attribute that the effect modifies
pub record ItsEffect (r : Result) (p : ℕ) : Type 0 where
  pub row : ℕ
  pub owns : Owns r row p
  pub inside : number_at r p < r.counts.collected
  pub origin : (j : ℕ) → j < 6 → cell r.entries p j ≡ cell r.collected (number_at r p) j
  pub operator : cell r.entries p 6 ≡ cell r.collected (number_at r p) 8
  pub given : cell r.entries p 9 ≡ cell r.collected (number_at r p) 12
  pub resistance : cell r.entries p 10 ≡ cell r.collected (number_at r p) 13
  pub attribute : cell r.rows row 1 ≡ cell r.collected (number_at r p) 11
  pub value : get_or r.entry_values p zero_f ≡ get_or r.collected_values (number_at r p) zero_f
