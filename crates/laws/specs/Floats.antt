-- Finite floats, their sizes, and the ones that are not yet there. Definitions only, over the library's IEEE 754.
use Rattle.std.specs.Prelude.{ℕ, suc, Bool, true, false, List, [], ◌∷◌, pos, Float}
use Rattle.std.specs.Float.{nan, inf, fin}
use Rattle.std.specs.Float.Ieee.{lt}

unfoldable pub finite : Float → Bool
finite nan = false
finite (inf s) = false
finite (fin s m e) = true

-- 0.0 and 1.0
abbrev pub zero_f : Float
zero_f = fin false 0 (pos 0)

abbrev pub one_f : Float
one_f = fin false 1 (pos 0)

-- the size of x
abbrev pub size_f : Float → Float
size_f nan = nan
size_f (inf s) = inf false
size_f (fin s m e) = fin false m e

-- whether x is smaller in size than y
unfoldable pub smaller : Float → Float → Bool
smaller x y = lt (size_f x) (size_f y)

-- how many of a list are NaN
unfoldable pub nans : List Float → ℕ
nans [] = 0
nans (nan ∷ r) = suc (nans r)
nans (inf s ∷ r) = nans r
nans (fin s m e ∷ r) = nans r
