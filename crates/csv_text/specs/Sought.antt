-- What a search among labels finds. Definitions only.
use Rattle.std.specs.Prelude.{ℕ, List, [], ℤ}
use Rattle.laws.proofs.Search.{Between, Falls, less_than}
use Rattle.csv_text.specs.Labels.{id_of}

-- the first label whose id is not below a lies between two places, where ids do not descend
abbrev pub Lower : List (List ℕ) → ℤ → ℕ → ℕ → Type 0
Lower rows a lo hi = Falls (less_than id_of a) rows [] → Between (less_than id_of a) rows [] lo hi

abbrev pub FirstNotBelow : List (List ℕ) → ℤ → ℕ → Type 0
FirstNotBelow rows a i = Lower rows a i i
