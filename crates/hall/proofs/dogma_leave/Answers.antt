-- `hall::dogma_leave` meets its contract: where a pilot leaves the table is ready for the freed stretch, and what is stored is the table with it; else nothing is stored.
use Prim.Native.Nat.{ℕ, ◌≤◌}
use mathlib.Core.Path.{◌≡◌, sym, ap, ◌∙◌, subst}
use mathlib.Core.List.{List}
use lib.ListN.{length}
use Rattle.std.specs.Prelude.{Result, Ok, Err}
use Rattle.promises.specs.Pilots.{Pool}
use Rattle.free_table.specs.declared.Stretch.{Stretch}
use Rattle.free_table.specs.Table.{loaded, stored}
use Rattle.seats.specs.declared.Seat.{Seat}
use Rattle.seats.specs.declared.Left.{Left}
use Rattle.seats.specs.declared.SeatRefusal.{SeatRefusal}
use Rattle.seats.specs.Told.{hall_of, ReadyFor, freed_table, refusal_told, done_told}
use Rattle.seats.proofs.Whole.{seat_for, free_in}
use Rattle.evenings.specs.Leaving.{LeaveMeets, LeavesSeats, pool_rows}
use Rattle.hall.proofs.Freed.{freed_ready, has_left, has_stayed}
use Rattle.hall.proofs.dogma_leave.Goals as goal

-- what the table by value is, and what was answered from it
module _ (ys : List Stretch) (n : ℕ) (ss : List (List (List ℕ))) (p : ℕ) (before : Pool) {t : List Stretch} (load : t ≡ loaded ys) {after : Pool} {r : Result Left SeatRefusal} {ws : List (List (List ℕ))}
    (e : LeavesSeats (length ys) (hall_of t n ss (pool_rows before)) p before after r ws) where
  at_loaded : LeavesSeats (length ys) (hall_of (loaded ys) n ss (pool_rows before)) p before after r ws
  at_loaded = subst (λ (x : List Stretch). LeavesSeats (length ys) (hall_of x n ss (pool_rows before)) p before after r ws) load e

  ready : {l : Left} → r ≡ Ok l → (17 ≤ length ys) × ReadyFor t n l.stretch
  ready {l} z = let q = freed_ready ys n ss p before at_loaded z in (q.0, subst (λ (x : List Stretch). ReadyFor x n l.stretch) (sym load) q.1)

  written : {l : Left} → r ≡ Ok l → {u us : List Stretch} → u ≡ freed_table t n l.stretch → us ≡ stored ys u → {s : Seat} → s ≡ done_told l.free → LeaveMeets (hall_of ys n ss (pool_rows before)) p before after s us ws
  written {l} z g h f =
      has_left ys n ss p before at_loaded z (f ∙ sym (ap (λ (x : Result Left SeatRefusal). seat_for (free_in x) n) z))
      (h ∙ ap (stored ys) (g ∙ ap (λ (x : List Stretch). freed_table x n l.stretch) load))

  unwritten : {y : SeatRefusal} → r ≡ Err y → {s : Seat} → s ≡ refusal_told y n → LeaveMeets (hall_of ys n ss (pool_rows before)) p before after s ys ws
  unwritten z f = has_stayed ys n ss p before at_loaded z (f ∙ sym (ap (λ (x : Result Left SeatRefusal). seat_for (free_in x) n) z))

pub leave_table-requires : goal.leave_table-requires
leave_table-requires c = record { ready = (ready _ _ _ _ _ c.load-t.ensures.defined c.leave_seats-answer.ensures.left c.in-Ok.is).1 }

pub store-requires : goal.store-requires
store-requires c = record { room = (ready _ _ _ _ _ c.load-t.ensures.defined c.leave_seats-answer.ensures.left c.in-Ok.is).0 }

pub returns-in-Ok : goal.returns-in-Ok
returns-in-Ok c = record { left = written _ _ _ _ _ c.load-t.ensures.defined c.leave_seats-answer.ensures.left c.in-Ok.is c.leave_table.ensures.defined c.store.ensures.defined c.done.ensures.defined }

pub returns-in-Err : goal.returns-in-Err
returns-in-Err c = record { left = unwritten _ _ _ _ _ c.load-t.ensures.defined c.leave_seats-answer.ensures.left c.in-Err.is c.told.ensures.defined }
