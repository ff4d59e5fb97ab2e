-- What the walk of a leaving knows of the functions it calls, and that it is what the definition says.
use Prim.Native.Nat.{ℕ, ◌≤◌}
use native.Mathlib.Omega.{arith}
use mathlib.Core.Path.{◌≡◌, refl, sym, ap, ◌∙◌, subst}
use mathlib.Core.Bool.{Bool, true}
use mathlib.Core.List.{List}
use lib.Dec.{eqb}
use lib.ListN.{length}
use borrow.Author.Tests.{eq-eqb, ne_eqb}
use Rattle.promises.specs.Pilots.{Pool}
use Rattle.free_table.specs.declared.Stretch.{Stretch}
use Rattle.free_table.specs.Table.{loaded, stored, pick}
use Rattle.seats.specs.declared.Seat.{Seat}
use Rattle.std.specs.Prelude.{Result, Ok, Err}
use Rattle.seats.specs.declared.Left.{Left}
use Rattle.seats.specs.declared.SeatRefusal.{SeatRefusal}
use Rattle.seats.specs.Seats.{Given, Seated, Done, number, seat_of, leave}
use Rattle.seats.specs.Told.{hall_of, leaver, roomed, ReadyFor, freed_table}
use Rattle.seats.proofs.Whole.{alike_told, leave-roomed, leave_ready, leave-table-is, seat_for, ok_done, err_number, free_in, free-answered, left-told}
use Rattle.evenings.specs.Leaving.{LeaveMeets, LeavesSeats, pool_rows, left_pool}
use Rattle.evenings.proofs.Seated.{held}

module _ (ys : List Stretch) (n : ℕ) (ss : List (List (List ℕ))) (p : ℕ) (before : Pool) {after : Pool} {r : Result Left SeatRefusal} {ws : List (List (List ℕ))}
    (e : LeavesSeats (length ys) (hall_of (loaded ys) n ss (pool_rows before)) p before after r ws) where
  abbrev m : ℕ
  m = pool_rows before

  abbrev given : Given
  given = roomed (length ys) (hall_of (loaded ys) n ss m) (leave (hall_of (loaded ys) n ss m) p)

  -- the seat that is told, and the table that is left
  leave-meets : {s : Seat} {us : List Stretch} → s ≡ seat_for (free_in r) n → us ≡ pick (eqb (number given.answer) 0) (stored ys (freed_table (loaded ys) n (leaver given.answer (seat_of ss p)))) ys
      → LeaveMeets (hall_of ys n ss m) p before after s us ws
  leave-meets f g =
      record {
        by-told =
            f ∙ left-told (length ys) (hall_of (loaded ys) n ss m) p (ap free_in e.by_left ∙ free-answered given (seat_of ss p))
            ∙ sym (alike_told (leave-roomed ys n ss m p 0));
        by-table = leave-table-is ys n ss m p 0 e.pilots refl g;
        by_seats = e.by_seats ∙ sym (leave-roomed ys n ss m p 0).seats;
        by_pool = e.by_pool ∙ ap (λ (a : Seated). left_pool a (seat_of ss p) p before) (sym (leave-roomed ys n ss m p 0).answer);
      }

  module _ {l : Left} (z : r ≡ Ok l) where
    done : (given.answer ≡ Done) × (l ≡ record { free = given.hall.count; stretch = seat_of ss p })
    done = ok_done given.answer _ (sym z ∙ e.by_left)

    zero-told : eqb (number given.answer) 0 ≡ true
    zero-told = eq-eqb (number given.answer) 0 (ap number done.0)

    same_stretch : leaver given.answer (seat_of ss p) ≡ l.stretch
    same_stretch = ap (λ (a : Seated). leaver a (seat_of ss p)) done.0 ∙ sym (ap (λ (x : Left). x.stretch) done.1)

    pub freed_ready : (17 ≤ length ys) × ReadyFor (loaded ys) n l.stretch
    freed_ready =
        let r = leave_ready ys n ss m p 0 e.pilots (held before).most zero-told in
        (r.0, subst (ReadyFor (loaded ys) n) same_stretch r.1)

    pub has_left : {s : Seat} {us : List Stretch} → s ≡ seat_for (free_in r) n → us ≡ stored ys (freed_table (loaded ys) n l.stretch) → LeaveMeets (hall_of ys n ss m) p before after s us ws
    has_left f g =
        leave-meets f
        (g ∙ ap (λ (x : Stretch). stored ys (freed_table (loaded ys) n x)) (sym same_stretch)
        ∙ sym (ap (λ (b : Bool). pick b (stored ys (freed_table (loaded ys) n (leaver given.answer (seat_of ss p)))) ys) zero-told))

  pub has_stayed : {y : SeatRefusal} → r ≡ Err y → {s : Seat} → s ≡ seat_for (free_in r) n → LeaveMeets (hall_of ys n ss m) p before after s ys ws
  has_stayed z f =
      leave-meets f
      (sym (ap (λ (b : Bool). pick b (stored ys (freed_table (loaded ys) n (leaver given.answer (seat_of ss p)))) ys)
      (ne_eqb (number given.answer) 0 (λ k. let y = err_number given.answer _ (sym z ∙ e.by_left) in omega (arith, y, k)))))
