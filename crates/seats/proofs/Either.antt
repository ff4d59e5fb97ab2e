-- An admission is done or refused, and so is a leaving.
use Prim.Native.Nat.{ℕ, zero, suc, ◌<◌}
use native.Mathlib.Omega.{arith}
use mathlib.Core.Path.{◌≡◌, refl, sym, ap, ◌∙◌}
use mathlib.Core.Bool.{Bool, true, false}
use mathlib.Core.Option.{Option, none, some}
use lib.Dec.{ltb, eqb}
use borrow.Author.Tests.{ltb-true, ltb-false, eqb-true, eqb-false}
use Rattle.free_table.specs.Table.{empty}
use Rattle.seats.specs.Seats.{Hall, free_of, seat_of, table_good, Cut, cut_first, freed, Seated, Done, Table, Pilot, Length, Pool, number, refused, with_seat, seat, admit, leave}
use Rattle.seats.proofs.Good.{Good, good}
use Rattle.seats.proofs.Ways.{admit_bad, admit-number, admit_in, admit_none, admit-cut, leave_bad, leave-number, leave_out, leave-done}

both_ways : {X : Type 0} → ◌≡◌ {A = Bool} false true → X
both_ways e = absurd (let z : ◌≡◌ {A = ℕ} 0 1 = cc in omega arith)

pub positive : (n : ℕ) → (n ≡ 0 → ⊥) → 0 < n
positive zero z = absurd (z refl)
positive (suc n) z = omega arith

pub data AdmitWay (h : Hall) (p w : ℕ) : Type 0 where
  admitted : Good h → p < 16 → (seat_of h.seats p).length ≡ 0 → 0 < w → (c : Cut) → cut_first w (free_of h) ≡ some c
      → admit h p w ≡ record { answer = Done; hall = with_seat h c.rest p (record { start = c.start; length = w }) } → AdmitWay h p w
  turned_away : (a : Seated) → 0 < number a → (table_good h ≡ true → number a ≡ 18 → ⊥) → admit h p w ≡ refused a h → AdmitWay h p w

pub admit_way : (h : Hall) (p w : ℕ) → AdmitWay h p w
admit_way h p w = by (table_good h) refl
  where
    by-cut : table_good h ≡ true → p < 16 → (seat_of h.seats p).length ≡ 0 → (w ≡ 0 → ⊥) → (o : Option Cut) → cut_first w (free_of h) ≡ o → AdmitWay h p w
    by-cut g l k n none f = turned_away (Pool p) (omega arith) (λ t z. omega (arith, z)) (admit-cut h p w g l k n ∙ ap (seat h p w) f)
    by-cut g l k n (some c) f = admitted (good g) l k (positive w n) c f (admit-cut h p w g l k n ∙ ap (seat h p w) f)

    by_length : table_good h ≡ true → p < 16 → (seat_of h.seats p).length ≡ 0 → (b : Bool) → eqb w 0 ≡ b → AdmitWay h p w
    by_length g l k true f = turned_away (Length p) (omega arith) (λ t z. omega (arith, z)) (admit_none h p w g l k (eqb-true w 0 f))
    by_length g l k false f = by-cut g l k (eqb-false w 0 f) (cut_first w (free_of h)) refl

    by-seat : table_good h ≡ true → p < 16 → (b : Bool) → eqb (seat_of h.seats p).length 0 ≡ b → AdmitWay h p w
    by-seat g l true f = by_length g l (eqb-true (seat_of h.seats p).length 0 f) (eqb w 0) refl
    by-seat g l false f = turned_away (Pilot p) (omega arith) (λ t z. omega (arith, z)) (admit_in h p w g l (positive (seat_of h.seats p).length (eqb-false (seat_of h.seats p).length 0 f)))

    by_number : table_good h ≡ true → (b : Bool) → ltb p 16 ≡ b → AdmitWay h p w
    by_number g true f = by-seat g (ltb-true p 16 f) (eqb (seat_of h.seats p).length 0) refl
    by_number g false f = turned_away (Pilot p) (omega arith) (λ t z. omega (arith, z)) (admit-number h p w g (ltb-false p 16 f))

    by : (b : Bool) → table_good h ≡ b → AdmitWay h p w
    by true g = by_number g (ltb p 16) refl
    by false g = turned_away Table (omega arith) (λ t z. both_ways (sym g ∙ t)) (admit_bad h p w g)

pub data LeaveWay (h : Hall) (p : ℕ) : Type 0 where
  left : Good h → p < 16 → 0 < (seat_of h.seats p).length
      → leave h p ≡ record { answer = Done; hall = with_seat h (freed (seat_of h.seats p) (free_of h)) p empty } → LeaveWay h p
  kept_in : (a : Seated) → 0 < number a → (table_good h ≡ true → number a ≡ 18 → ⊥) → leave h p ≡ refused a h → LeaveWay h p

pub leave_way : (h : Hall) (p : ℕ) → LeaveWay h p
leave_way h p = by (table_good h) refl
  where
    by-seat : table_good h ≡ true → p < 16 → (b : Bool) → eqb (seat_of h.seats p).length 0 ≡ b → LeaveWay h p
    by-seat g l true f = kept_in (Pilot p) (omega arith) (λ t z. omega (arith, z)) (leave_out h p g l (eqb-true (seat_of h.seats p).length 0 f))
    by-seat g l false f =
        let k = positive (seat_of h.seats p).length (eqb-false (seat_of h.seats p).length 0 f) in left (good g) l k (leave-done h p g l k)

    by_number : table_good h ≡ true → (b : Bool) → ltb p 16 ≡ b → LeaveWay h p
    by_number g true f = by-seat g (ltb-true p 16 f) (eqb (seat_of h.seats p).length 0) refl
    by_number g false f = kept_in (Pilot p) (omega arith) (λ t z. omega (arith, z)) (leave-number h p g (ltb-false p 16 f))

    by : (b : Bool) → table_good h ≡ b → LeaveWay h p
    by true g = by_number g (ltb p 16) refl
    by false g = kept_in Table (omega arith) (λ t z. both_ways (sym g ∙ t)) (leave_bad h p g)
