-- `hall::dogma_admit` meets its contract: where a pilot is admitted the table is ready to be cut, and what is stored is the cut table; else nothing is stored.
use Prim.Native.Nat.{ℕ, ◌≤◌, ◌<◌, ◌^◌}
use mathlib.Core.Path.{◌≡◌, sym, ap, ◌∙◌, subst}
use mathlib.Core.List.{List}
use lib.ListN.{length}
use Rattle.std.specs.Prelude.{Result, Ok, Err}
use Rattle.free_table.specs.declared.Stretch.{Stretch}
use Rattle.free_table.specs.Table.{loaded, stored}
use Rattle.seats.specs.declared.Seat.{Seat}
use Rattle.seats.specs.declared.SeatRefusal.{SeatRefusal}
use Rattle.seats.specs.Told.{hall_of, Ready, refusal_told, done_told}
use Rattle.evenings.specs.Leaving.{AdmitMeets}
use Rattle.hall.proofs.Plan.{answer, seats, cut, cut_ready, is_seated, is_refused}
use Rattle.hall.proofs.dogma_admit.Goals as goal

-- what the table by value is, and what was answered from it
module _ (ys : List Stretch) (n : ℕ) (ss : List (List (List ℕ))) (m p w : ℕ) {t : List Stretch} (load : t ≡ loaded ys) {r : Result ℕ SeatRefusal} {ws : List (List (List ℕ))}
    (e : (r ≡ answer t (length ys) ss n m p w) × (ws ≡ seats t (length ys) ss n m p w)) where
  answer_is : r ≡ answer (loaded ys) (length ys) ss n m p w
  answer_is = e.0 ∙ ap (λ (x : List Stretch). answer x (length ys) ss n m p w) load

  seats_are : ws ≡ seats (loaded ys) (length ys) ss n m p w
  seats_are = e.1 ∙ ap (λ (x : List Stretch). seats x (length ys) ss n m p w) load

  ready : m < 2 ^ 32 → {x : ℕ} → r ≡ Ok x → (17 ≤ length ys) × Ready t n
  ready fits z = let q = cut_ready ys n ss m p w answer_is z fits in (q.0, subst (λ (x : List Stretch). Ready x n) (sym load) q.1)

  written : {x : ℕ} → r ≡ Ok x → {u zs : List Stretch} → u ≡ cut t n w → zs ≡ stored ys u → {s : Seat} → s ≡ done_told x → AdmitMeets (hall_of ys n ss m) p w s zs ws
  written z f g h = is_seated ys n ss m p w answer_is z h (g ∙ ap (stored ys) (f ∙ ap (λ (x : List Stretch). cut x n w) load)) seats_are

  unwritten : {y : SeatRefusal} → r ≡ Err y → {s : Seat} → s ≡ refusal_told y n → AdmitMeets (hall_of ys n ss m) p w s ys ws
  unwritten z h = is_refused ys n ss m p w answer_is z h seats_are

pub admit_table-requires : goal.admit_table-requires
admit_table-requires c = record { ready = (ready c.args.free.now c.args.count c.args.stretches.now c.args.pool c.args.pilot c.args.wanted c.load-t.ensures.defined c.admit_seats.ensures.defined c.ranges.pool.fits c.in-Ok.is).1 }

pub store-requires : goal.store-requires
store-requires c = record { room = (ready c.args.free.now c.args.count c.args.stretches.now c.args.pool c.args.pilot c.args.wanted c.load-t.ensures.defined c.admit_seats.ensures.defined c.ranges.pool.fits c.in-Ok.is).0 }

pub returns-in-Ok : goal.returns-in-Ok
returns-in-Ok c = record { seated = written c.args.free.now c.args.count c.args.stretches.now c.args.pool c.args.pilot c.args.wanted c.load-t.ensures.defined c.admit_seats.ensures.defined c.in-Ok.is c.admit_table.ensures.defined c.store.ensures.defined c.done.ensures.defined }

pub returns-in-Err : goal.returns-in-Err
returns-in-Err c = record { seated = unwritten c.args.free.now c.args.count c.args.stretches.now c.args.pool c.args.pilot c.args.wanted c.load-t.ensures.defined c.admit_seats.ensures.defined c.in-Err.is c.told.ensures.defined }
