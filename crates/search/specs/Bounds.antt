-- What a search among rows of list 2 finds. Definitions only.
use Rattle.std.specs.Prelude.{ℕ, List, [], ℤ, get_or}
use Rattle.laws.proofs.Search.{Falls, Between, less_than}
use Rattle.rules.specs.Bytes.{signed}

-- the id in a row
abbrev pub row_key : List ℕ → ℤ
row_key r = signed (get_or r 1 0)

-- where no id below a follows one that is not, the first that is not below a lies between lo and hi
abbrev pub Lower : List (List ℕ) → ℤ → ℕ → ℕ → Type 0
Lower rows a lo hi = Falls (less_than row_key a) rows [] → Between (less_than row_key a) rows [] lo hi
