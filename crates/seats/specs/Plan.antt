-- The searches and shifts of the code, by places of the table. Definitions only.
use Rattle.std.specs.Prelude.{ℕ, zero, suc, ◌+◌, ◌-◌, Bool, ◌&&◌, ◌||◌, List, [], ◌∷◌, leb, ltb, eqb, get_or, set, cond, Option, Some, None}
use Rattle.free_table.specs.declared.Stretch.{Stretch}
use Rattle.free_table.specs.Table.{empty, pick}
use Rattle.seats.specs.Tiling.{end_of}

-- whether the i-th of n is empty or does not end before the next begins
abbrev pub touches_at : List Stretch → ℕ → ℕ → Bool
touches_at t n i = ltb (i + 1) n && leb (get_or t (i + 1) empty).start (end_of (get_or t i empty))

abbrev pub bad_at : List Stretch → ℕ → ℕ → Bool
bad_at t n i = eqb (get_or t i empty).length 0 || touches_at t n i

-- the first of m stretches from place i on that is w long, or where they end
abbrev pub first_from : List Stretch → ℕ → ℕ → ℕ → ℕ
first_from t w i zero = i
first_from t w i (suc m) = pick (leb w (get_or t i empty).length) i (first_from t w (i + 1) m)

-- a place below n is one
abbrev pub place_in : ℕ → ℕ → Option ℕ
place_in n i = cond (ltb i n) (Some i) None

-- the m stretches from place j, each moved down by one, the first first
abbrev pub down_from : List Stretch → ℕ → ℕ → List Stretch
down_from t j zero = t
down_from t j (suc m) = down_from (set t (j - 1) (get_or t j empty)) (j + 1) m

-- the i-th of n taken out
abbrev pub shut_of : List Stretch → ℕ → ℕ → List Stretch
shut_of t n i = set (down_from t (i + 1) (n - (i + 1))) (n - 1) empty

-- the place of the first that begins behind row a, or how many there are
abbrev pub place_of : ℕ → List Stretch → ℕ
place_of a [] = 0
place_of a (s ∷ r) = pick (ltb a s.start) 0 (suc (place_of a r))
