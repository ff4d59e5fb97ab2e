-- What the walks of the two entries know of the functions they call, and that it is what the definition says.
use Prim.Native.Nat.{ℕ, ◌<◌, ◌≤◌, ◌^◌}
use native.Mathlib.Omega.{arith}
use mathlib.Core.Path.{◌≡◌, sym, ap, ◌∙◌, subst}
use mathlib.Core.Bool.{Bool, true}
use mathlib.Core.List.{List}
use lib.Dec.{eqb}
use lib.ListN.{length, take}
use borrow.Author.Tests.{ne_eqb}
use Rattle.free_table.specs.declared.Stretch.{Stretch}
use Rattle.free_table.specs.Table.{loaded, stored, pick}
use Rattle.std.specs.Prelude.{Result, Ok, Err}
use Rattle.seats.specs.declared.Seat.{Seat}
use Rattle.seats.specs.declared.SeatRefusal.{SeatRefusal}
use Rattle.seats.specs.Seats.{cut_first, admit}
use Rattle.seats.specs.Told.{hall_of, told, answered, refusal_told, done_told, roomed, Ready, cut_table}
use Rattle.seats.proofs.Whole.{admit-is, admit_ready, seat_for, refusal-number, admitted-told}
use Rattle.evenings.specs.Leaving.{AdmitMeets}

abbrev pub answer : List Stretch → ℕ → List (List (List ℕ)) → ℕ → ℕ → ℕ → ℕ → Result ℕ SeatRefusal
answer t room ss n m p w = answered (roomed room (hall_of t n ss m) (admit (hall_of t n ss m) p w))

abbrev pub seats : List Stretch → ℕ → List (List (List ℕ)) → ℕ → ℕ → ℕ → ℕ → List (List (List ℕ))
seats t room ss n m p w = (roomed room (hall_of t n ss m) (admit (hall_of t n ss m) p w)).hall.seats

abbrev pub cut : List Stretch → ℕ → ℕ → List Stretch
cut t n w = cut_table t n (cut_first w (take n t))

module _ (ys : List Stretch) (n : ℕ) (ss : List (List (List ℕ))) (m p w : ℕ) {r : Result ℕ SeatRefusal} (e : r ≡ answer (loaded ys) (length ys) ss n m p w) where
  seat-told : seat_for r n ≡ told (roomed (length ys) (hall_of (loaded ys) n ss m) (admit (hall_of (loaded ys) n ss m) p w))
  seat-told = admitted-told (length ys) (hall_of (loaded ys) n ss m) p w e

  admit-meets : {zs : List Stretch} {ws : List (List (List ℕ))} → zs ≡ pick (eqb (seat_for r n).number 0) (stored ys (cut (loaded ys) n w)) ys → ws ≡ seats (loaded ys) (length ys) ss n m p w
      → AdmitMeets (hall_of ys n ss m) p w (seat_for r n) zs ws
  admit-meets f g = let x = admit-is ys n ss m p w seat-told f g in record { by-told = x.0; by-table = x.1.0; by_seats = x.1.1 }

  module _ {x : ℕ} (z : r ≡ Ok x) where
    zero-told : eqb (seat_for r n).number 0 ≡ true
    zero-told = ap (λ (y : Result ℕ SeatRefusal). eqb (seat_for y n).number 0) z

    pub cut_ready : m < 2 ^ 32 → (17 ≤ length ys) × Ready (loaded ys) n
    cut_ready fits = admit_ready ys n ss m p w (let z : m < 4294967296 = fits in omega (arith, z)) (sym (ap (λ (s : Seat). eqb s.number 0) seat-told) ∙ zero-told)

    pub is_seated : {s : Seat} {zs : List Stretch} {ws : List (List (List ℕ))} → s ≡ done_told x → zs ≡ stored ys (cut (loaded ys) n w) → ws ≡ seats (loaded ys) (length ys) ss n m p w → AdmitMeets (hall_of ys n ss m) p w s zs ws
    is_seated {s} {zs} {ws} f g h =
        subst (λ (q : Seat). AdmitMeets (hall_of ys n ss m) p w q zs ws) (ap (λ (y : Result ℕ SeatRefusal). seat_for y n) z ∙ sym f)
        (admit-meets (g ∙ sym (ap (λ (b : Bool). pick b (stored ys (cut (loaded ys) n w)) ys) zero-told)) h)

  pub is_refused : {y : SeatRefusal} → r ≡ Err y → {s : Seat} {ws : List (List (List ℕ))} → s ≡ refusal_told y n → ws ≡ seats (loaded ys) (length ys) ss n m p w → AdmitMeets (hall_of ys n ss m) p w s ys ws
  is_refused {y} z {s} {ws} f h =
      subst (λ (q : Seat). AdmitMeets (hall_of ys n ss m) p w q ys ws) (ap (λ (x : Result ℕ SeatRefusal). seat_for x n) z ∙ sym f)
      (admit-meets (sym (ap (λ (b : Bool). pick b (stored ys (cut (loaded ys) n w)) ys) (ap (λ (x : Result ℕ SeatRefusal). eqb (seat_for x n).number 0) z ∙ ne_eqb (refusal_told y n).number 0 (refusal-number y n)))) h)
