-- Stretches of rows, and when they cover each row of a pool exactly once. 02, M-107. Definitions only.
use Rattle.std.specs.Prelude.{ℕ, ◌+◌, Bool, true, false, ◌&&◌, ◌||◌, List, [], ◌∷◌, leb, ltb, eqb}
use Rattle.laws.specs.Lists.{every?, from}
use Rattle.free_table.specs.declared.Stretch.{Stretch}

-- the row past its last
abbrev pub end_of : Stretch → ℕ
end_of s = s.start + s.length

-- row i is in it
abbrev pub holds : ℕ → Stretch → Bool
holds i s = leb s.start i && ltb i (end_of s)

abbrev pub one : Bool → ℕ
one true = 1
one false = 0

-- how many of them row i is in
abbrev pub how_many : ℕ → List Stretch → ℕ
how_many i [] = 0
how_many i (s ∷ r) = one (holds i s) + how_many i r

-- no row of it lies at n or above
abbrev pub inside : ℕ → Stretch → Bool
inside n s = eqb s.length 0 || leb (end_of s) n

-- each row below n is in exactly one, and no row at n or above is in any
unfoldable pub tiled : ℕ → List Stretch → Bool
tiled n ss = every? (λ i. eqb (how_many i ss) 1) (from 0 n) && every? (inside n) ss

-- their rows, added up
abbrev pub lengths : List Stretch → ℕ
lengths [] = 0
lengths (s ∷ r) = s.length + lengths r
