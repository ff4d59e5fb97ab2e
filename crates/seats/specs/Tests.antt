-- What code can test without a look at each row. Definitions only.
use Rattle.std.specs.Prelude.{ℕ, ◌-◌, max, min, Bool, true, ◌&&◌, not, List, [], ◌∷◌, ltb, eqb, get_or}
use Rattle.laws.specs.Lists.{every?}
use Rattle.free_table.specs.declared.Stretch.{Stretch}
use Rattle.free_table.specs.Table.{empty, pick}
use Rattle.seats.specs.Tiling.{end_of, inside, lengths}

-- some row is in both; false where one is empty
abbrev pub overlaps : Stretch → Stretch → Bool
overlaps s t = ltb (max s.start t.start) (min (end_of s) (end_of t))

-- it overlaps none of these
abbrev pub clear_from : Stretch → List Stretch → Bool
clear_from s r = every? (λ t. not (overlaps s t)) r

-- none overlaps a later one
abbrev pub clear_of : List Stretch → Bool
clear_of [] = true
clear_of (s ∷ r) = clear_from s r && clear_of r

-- inside, clear of each other, and together as long as the pool
unfoldable pub tested : ℕ → List Stretch → Bool
tested n ss = every? (inside n) ss && (clear_of ss && eqb (lengths ss) n)

-- x in place k of a list, those from there on behind it
abbrev pub put_at : ℕ → Stretch → List Stretch → ℕ → Stretch
put_at k x l i = pick (ltb i k) (get_or l i empty) (pick (eqb i k) x (get_or l (i - 1) empty))
