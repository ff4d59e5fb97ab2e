-- Another planner's lines beside our rows: keys first, then each value. 02, M-111. Definitions only.
use Rattle.std.specs.Prelude.{ℕ, suc, ◌+◌, ◌*◌, Bool, true, false, not, ◌&&◌, cond, List, [], ◌∷◌, map, eqb, Float, get_or}
use Rattle.std.proofs.Math.Option.{Option, none, some}
use Rattle.std.specs.Float.{nan, inf, fin, binary64}
use Rattle.std.specs.Float.Ieee.{of_bits}
use Rattle.std.specs.Int.{w32}
use Rattle.std.proofs.Common.{to_z}
use Rattle.laws.specs.Floats.{finite}
use Rattle.laws.specs.Lists.{eq_z}
use Rattle.rules.specs.Answer.{Res, ok, refused}
use Rattle.rules.specs.Dispatch.{Row, Key, same_key}
use Rattle.rules.specs.Value.{World}
use Rattle.promises.specs.NoMemory.{key_of}
use Rattle.settled.specs.Given.{given}

-- "object, attribute and the float's 64 bits"
pub record Line : Type 0 where
  pub key : Key
  pub bits : ℕ

-- as it is lent: the bits as two halves, the low one first
abbrev pub line_of : List ℕ → Line
line_of r = record { key = record { object = get_or r 0 0; id = to_z w32 (get_or r 1 0) }; bits = get_or r 2 0 + 4294967296 * get_or r 3 0 }

-- 01 knows finite floats alone: other bits are no value
abbrev pub finite_only : Float → Option Float
finite_only x = cond (finite x) (some x) none

abbrev pub value_in : Line → Option Float
value_in l = finite_only (of_bits binary64 l.bits)

abbrev pub values_of : List Line → List (Option Float)
values_of ls = map value_in ls

-- "rows compared before values", "every row of ours is present once", "in row order": the first place where the keys differ, or where one list has ended
unfoldable pub first_other : ℕ → List Key → List Key → Option ℕ
first_other i [] [] = none
first_other i [] (b ∷ bs) = some i
first_other i (a ∷ ks) [] = some i
first_other i (a ∷ ks) (b ∷ bs) = elim (same_key a b) [ true ↦ first_other (suc i) ks bs | false ↦ some i ]

abbrev pub same_sign : Bool → Bool → Bool
same_sign true t = t
same_sign false t = not t

-- the same float, to the sign of a zero: floats of 64 bits are the same just when all their bits are
abbrev pub same_float : Float → Float → Bool
same_float nan nan = true
same_float nan (inf t) = false
same_float nan (fin t n f) = false
same_float (inf s) nan = false
same_float (inf s) (inf t) = same_sign s t
same_float (inf s) (fin t n f) = false
same_float (fin s m e) nan = false
same_float (fin s m e) (inf t) = false
same_float (fin s m e) (fin t n f) = same_sign s t && (eqb m n && eq_z e f)

-- what the rules give is the value
abbrev pub is_given : Res Float → Option Float → Bool
is_given (ok v) (some x) = same_float v x
is_given (ok v) none = false
is_given (refused y) x = false

-- "first wrong line from 0": the first row whose value is not the given one
unfoldable pub first_wrong : World → List (Option Float) → ℕ → List Row → Option ℕ
first_wrong w vs i [] = none
first_wrong w vs i (r ∷ rs) = elim (is_given (given w vs i r) (get_or vs i none)) [ true ↦ first_wrong w vs (suc i) rs | false ↦ some i ]

-- "15 LISTING, rows compared before values"; "first wrong line from 0, or the number of lines where rows are missing"
unfoldable pub first_bad : World → List Line → Option ℕ
first_bad w ls = elim (first_other 0 (map (λ l. l.key) ls) (map key_of w.rows)) [ some i ↦ some i | none ↦ first_wrong w (values_of ls) 0 w.rows ]
