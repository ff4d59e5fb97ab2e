-- Rows of list 2 by their keys. Definitions only.
use Rattle.std.specs.Prelude.{ℕ, Bool, ◌&&◌, List, eqb, get_or}

-- whether a row is that of an attribute of an object, by its bits
abbrev pub is_row : ℕ → ℕ → List ℕ → Bool
is_row o a r = eqb (get_or r 0 0) o && eqb (get_or r 1 0) a
