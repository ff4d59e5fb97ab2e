-- What a parameter that is a reference to a list is in a contract. Definitions only.
use Rattle.std.specs.Prelude.{List}
use Rattle.std.specs.Borrow.{MutBor}
use denote.Triple.Both.{Both}

-- in a `requires`: the list as it is lent
abbrev pub Column : Type 0 → Type 0
Column X = MutBor (List X)

-- in an `ensures`: the list as it was lent, and as it comes back
abbrev pub LentColumn : Type 0 → Type 0
LentColumn X = Both (Column X) (Column X)
