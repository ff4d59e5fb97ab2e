-- Numbers of list 2 that code counts with: none is above the length of list 3.
use Prim.Native.Nat.{ℕ, ◌+◌, ◌≤◌, ◌<◌, ◌^◌}
use native.Mathlib.Omega.{arith}
use native.Mathlib.Nat.{lt_of_le_of_lt}
use mathlib.Core.Path.{◌≡◌}
use mathlib.Core.List.{List, []}
use lib.Dec.{T, lit<}
use lib.Ieee.{Float}
use lib.ListN.{length, get_or}
use mir.Syntax.{w64}
use mir.Val.{Fits}
use Rattle.sources.specs.declared.Recording.{Recording}
use Rattle.memory.specs.Holding.{Tables, Ready}

pub fits_below : (n m : ℕ) → n ≤ m → m < 2 ^ 64 → Fits w64 n
fits_below n m a b = record { fits = lt_of_le_of_lt a b }

module _ {t : Tables} {run : Recording} {v : List Float} {s : List (List ℕ)} {f : List (List Float)} {used : ℕ} (h : Ready t run v s f used) (i : ℕ) (inside : i < length h.world.rows) where
  pub row_inside : i < length t.rows
  row_inside = omega (arith, inside, h.told.held.long)

  pub first_and_count : get_or (get_or t.rows i []) 2 0 + get_or (get_or t.rows i []) 3 0 ≤ length t.entries
  first_and_count = omega (arith, (h.told.row i inside).first, (h.told.row i inside).count, (h.told.row i inside).inside.0)

  module _ (short : length t.entries < 2 ^ 64) where
    pub first_fits : Fits w64 (get_or (get_or t.rows i []) 2 0)
    first_fits = fits_below (get_or (get_or t.rows i []) 2 0) (length t.entries) (omega (arith, first_and_count)) short

    pub count_fits : Fits w64 (get_or (get_or t.rows i []) 3 0)
    count_fits = fits_below (get_or (get_or t.rows i []) 3 0) (length t.entries) (omega (arith, first_and_count)) short

    pub end_fits : Fits w64 (get_or (get_or t.rows i []) 2 0 + get_or (get_or t.rows i []) 3 0)
    end_fits = fits_below (get_or (get_or t.rows i []) 2 0 + get_or (get_or t.rows i []) 3 0) (length t.entries) first_and_count short
