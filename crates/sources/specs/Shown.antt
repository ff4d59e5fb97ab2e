-- Source rows in the columns of list 5: each row of list 2 has as many places as are planned for it, and fills them from the front. Definitions only.
use Rattle.std.specs.Prelude.{ℕ, zero, suc, min, cond, List, [], ◌∷◌, ◌++◌, ltb, take, set}
use Rattle.std.proofs.Math.Option.{Option, none, some}
use Rattle.laws.specs.Lists.{total}

module _ {A : Type 0} where
  -- n places, of which the first hold q
  abbrev pub filled : ℕ → List A → List (Option A)
  filled zero q = []
  filled (suc n) [] = none ∷ filled n []
  filled (suc n) (s ∷ q) = some s ∷ filled n q

  -- the places of all rows, by their counts
  abbrev pub places : List ℕ → List (List A) → List (Option A)
  places [] qs = []
  places (n ∷ ns) [] = filled n [] ++ places ns []
  places (n ∷ ns) (q ∷ qs) = filled n q ++ places ns qs

  module _ {B : Type 0} (enc : A → B) where
    -- what is there goes over what stood in the column
    abbrev pub overlaid : List (Option A) → List B → List B
    overlaid [] c = c
    overlaid (x ∷ r) [] = []
    overlaid (none ∷ r) (b ∷ c) = b ∷ overlaid r c
    overlaid (some s ∷ r) (b ∷ c) = enc s ∷ overlaid r c

    -- the column that was c₀, up to the room
    unfoldable pub shown : ℕ → List ℕ → List (List A) → List B → List B
    shown room counts qs c₀ = overlaid (take room (places counts qs)) c₀

-- where row i's places begin
abbrev pub first_of : List ℕ → ℕ → ℕ
first_of counts i = total (take i counts)

-- the same in 32 bits: past them there is no room
abbrev pub first32 : List ℕ → ℕ → ℕ
first32 counts i = min (first_of counts i) 4294967295

-- x at place p, if that is in the room
abbrev pub placed : {B : Type 0} → ℕ → ℕ → B → List B → List B
placed room p x c = cond (ltb p room) (set c p x) c
