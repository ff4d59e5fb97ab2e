-- A list of two numbers, one by one.
use Rattle.std.proofs.Common.{◌≡◌, ℕ, List, [], ◌∷◌, get_or, refl, None, Some}
use Rattle.rules.specs.Columns.{optional_numbers}
use Rattle.rules.specs.Ids.{OptionalId}

abbrev pub pair : List ℕ → List ℕ
pair l = get_or l 0 0 ∷ get_or l 1 0 ∷ []

pub optional_pair : (o : OptionalId) → pair (optional_numbers o) ≡ optional_numbers o
optional_pair None = refl
optional_pair (Some a) = refl
