-- Any calls, one after another, and the words of what is said of them. 02, M-107. Definitions only.
use Rattle.std.specs.Prelude.{ℕ, ◌+◌, ◌≤◌, ◌<◌, ◌≡◌, List, [], ◌∷◌, ltb, replicate}
use Rattle.free_table.specs.declared.Stretch.{Stretch}
use Rattle.seats.specs.Tiling.{one, how_many}
use Rattle.seats.specs.Seats.{Hall, Done, Pool, seat_of, seats_of, admit, leave}

-- a call, with any arguments
pub data Call : Type 0 where
  Admit : ℕ → ℕ → Call
  Leave : ℕ → Call

abbrev pub then : Call → Hall → Hall
then (Admit p w) h = (admit h p w).hall
then (Leave p) h = (leave h p).hall

-- refused or not
abbrev pub after : List Call → Hall → Hall
after [] h = h
after (c ∷ cs) h = after cs (then c h)

-- "the whole pool is free": a pool of n rows, nobody in; what stands in the table behind is anything
abbrev pub start : ℕ → List Stretch → Hall
start n behind =
    record {
      rows = n;
      table = record { start = 0; length = n } ∷ behind;
      count = one (ltb 0 n);
      seats = replicate 16 (replicate 5 (0 ∷ 0 ∷ []));
    }

-- w rows of the pool from row i on, none of them a pilot's
abbrev pub FreeRun : Hall → ℕ → ℕ → Type 0
FreeRun h i w = (j : ℕ) → i ≤ j → j < i + w → (j < h.rows) × (how_many j (seats_of h) ≡ 0)

-- what an admission comes to: the lowest such run, or POOL where there is none
pub data Placed (h : Hall) (p w : ℕ) : Type 0 where
  at : (a : ℕ) → (admit h p w).answer ≡ Done → seat_of (admit h p w).hall.seats p ≡ record { start = a; length = w } → FreeRun h a w
      → ((i : ℕ) → FreeRun h i w → a ≤ i) → Placed h p w
  nowhere : (admit h p w).answer ≡ Pool p → ((i : ℕ) → FreeRun h i w → ⊥) → Placed h p w
