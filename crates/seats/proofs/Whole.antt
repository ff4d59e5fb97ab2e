-- From the first seventeen to the whole table: what is decided of them is decided of it, and what is stored stands before the rest.
use Prim.Native.Nat.{ℕ, zero, suc, ◌-◌, ◌≤◌, ◌<◌, max}
use native.Mathlib.Omega.{arith}
use mathlib.Core.Path.{◌≡◌, refl, sym, ap, ◌∙◌, subst}
use mathlib.Core.Bool.{Bool, true, false, ◌&&◌}
use mathlib.Core.List.{List, [], ◌∷◌, ◌++◌, map}
use mathlib.Core.Option.{Option, none, some}
use lib.Dec.{leb, ltb, eqb}
use lib.ListN.{get_or, take, drop, length, replicate, length-append, length-drop, take-append-drop}
use lib.Seq.{length-take-le, get_or-take}
use borrow.Author.Tests.{le-leb, lt-leb, ltb-true, ltb-false, eqb-true, eqb-false, eq-eqb, ne_eqb}
use Rattle.laws.specs.Lists.{every?, from}
use Rattle.laws.proofs.Bools.{same_test}
use Rattle.free_table.specs.declared.Stretch.{Stretch}
use Rattle.free_table.specs.Table.{empty, pick, loaded, stored}
use Rattle.free_table.proofs.Fronts.{loaded-is, stored_is}
use Rattle.std.specs.Prelude.{Result, Ok, Err}
use Rattle.seats.specs.declared.Seat.{Seat}
use Rattle.seats.specs.declared.Left.{Left}
use Rattle.seats.specs.declared.SeatRefusal.{SeatRefusal}
use Rattle.seats.specs.declared.SeatRefusal.TheVariants as refusal
use Rattle.seats.specs.Tiling.{end_of, tiled}
use Rattle.seats.specs.Seats.{Hall, seat_of, same_five, apart, table_good, Cut, cut_first, freed, Seated, Done, Table, Pilot, Length, Pool, number, place, Given, refused, tabled, with_seat, seat, admit, leave}
use Rattle.seats.specs.Told.{hall_of, told, answer_by, answered, left_answered, refusal_told, done_told, leaver, roomed, Ready, ReadyFor, cut_table, freed_table}
use Rattle.seats.proofs.Fit.{cut_short}
use Rattle.seats.proofs.Gather.{app_app}
use Rattle.seats.proofs.Good.{Good, good, good_few, free_long, free_end, seat_end, freed_few}
use Rattle.seats.proofs.Ways.{roomed_small, roomed_wide, admit_bad, leave_bad, admit-cut, leave-done, admit-number, admit_in, admit_none, leave-number, leave_out}
use Rattle.seats.proofs.Either.{positive, AdmitWay, admitted, turned_away, admit_way, LeaveWay, left, kept_in, leave_way}

-- ---- lists

take-take : (m n : ℕ) (t : List Stretch) → m ≤ n → take m (take n t) ≡ take m t
take-take zero n t h = refl
take-take (suc m) zero t h = absurd (omega (arith, h))
take-take (suc m) (suc n) [] h = refl
take-take (suc m) (suc n) (s ∷ t) h = ap (λ (l : List Stretch). s ∷ l) (take-take m n t (omega (arith, h)))

drop-take : (m n : ℕ) (t : List Stretch) → m ≤ n → drop m (take n t) ++ drop n t ≡ drop m t
drop-take zero n t h = take-append-drop n t
drop-take (suc m) zero t h = absurd (omega (arith, h))
drop-take (suc m) (suc n) [] h = refl
drop-take (suc m) (suc n) (s ∷ t) h = drop-take m n t (omega (arith, h))

tabled_long : (t : List Stretch) (n : ℕ) (fs : List Stretch) → n ≤ length t → length fs ≤ length t → length (tabled t n fs) ≡ length t
tabled_long t n fs h k =
    let b = length-append fs (replicate (n - length fs) empty ++ drop (max n (length fs)) t) in
    let c = length-append (replicate (n - length fs) empty) (drop (max n (length fs)) t) in
    let d = empties (n - length fs) in
    let e = length-drop (max n (length fs)) t in omega (arith, b, c, d, e, h, k)
  where
    empties : (k : ℕ) → length (replicate k empty) ≡ k
    empties zero = refl
    empties (suc k) = ap suc (empties k)

-- the table of the first seventeen, stored, is the table of all
tabled-stored : (ys : List Stretch) (n : ℕ) (fs : List Stretch) → 17 ≤ length ys → n ≤ 17 → length fs ≤ 17 → stored ys (tabled (take 17 ys) n fs) ≡ tabled ys n fs
tabled-stored ys n fs h k l =
    let long = length-take-le 17 ys h in
    stored_is ys (tabled (take 17 ys) n fs) h (tabled_long (take 17 ys) n fs (omega (arith, long, k)) (omega (arith, long, l)) ∙ long)
    ∙ app_app fs (replicate (n - length fs) empty ++ drop (max n (length fs)) (take 17 ys)) (drop 17 ys)
    ∙ ap (λ (q : List Stretch). fs ++ q) (app_app (replicate (n - length fs) empty) (drop (max n (length fs)) (take 17 ys)) (drop 17 ys)
    ∙ ap (λ (q : List Stretch). replicate (n - length fs) empty ++ q) (drop-take (max n (length fs)) 17 ys (omega (arith, k, l))))

-- ---- the two halls

module _ (ys : List Stretch) (n : ℕ) (ss : List (List (List ℕ))) (m : ℕ) where
  abbrev whole : Hall
  whole = hall_of ys n ss m

  abbrev part : Hall
  part = hall_of (loaded ys) n ss m

  -- fewer than seventeen places
  small_bad : length ys < 17 → table_good whole ≡ false
  unfolding table_good
  small_bad h = ap (λ (b : Bool). b && leb n (length ys) && every? (same_five ss) (from 0 16) && apart (take n ys) && tiled m (take n ys ++ map (seat_of ss) (from 0 16))) (lt-leb 17 (length ys) h)

  module _ (h : 17 ≤ length ys) where
    part_is : part ≡ hall_of (take 17 ys) n ss m
    part_is = ap (λ (t : List Stretch). hall_of t n ss m) (loaded-is ys h)

    part_long : length (loaded ys) ≡ 17
    part_long = ap length (loaded-is ys h) ∙ length-take-le 17 ys h

    free_same : n ≤ 17 → take n (loaded ys) ≡ take n ys
    free_same k = ap (take n) (loaded-is ys h) ∙ take-take n 17 ys k

    tests_same : n ≤ 17 → table_good whole ≡ table_good part
    unfolding table_good
    tests_same k =
        ap (λ (b : Bool). b && leb n (length ys) && every? (same_five ss) (from 0 16) && apart (take n ys) && tiled m (take n ys ++ map (seat_of ss) (from 0 16))) (le-leb 17 (length ys) h)
        ∙ ap (λ (b : Bool). true && b && every? (same_five ss) (from 0 16) && apart (take n ys) && tiled m (take n ys ++ map (seat_of ss) (from 0 16))) (le-leb n (length ys) (omega (arith, h, k)))
        ∙ ap (λ (q : List Stretch). true && true && every? (same_five ss) (from 0 16) && apart q && tiled m (q ++ map (seat_of ss) (from 0 16))) (sym (free_same k))
        ∙ sym (ap (λ (b : Bool). b && leb n (length (loaded ys)) && every? (same_five ss) (from 0 16) && apart (take n (loaded ys)) && tiled m (take n (loaded ys) ++ map (seat_of ss) (from 0 16))) (le-leb 17 (length (loaded ys)) (let z = part_long in omega (arith, z)))
        ∙ ap (λ (b : Bool). true && b && every? (same_five ss) (from 0 16) && apart (take n (loaded ys)) && tiled m (take n (loaded ys) ++ map (seat_of ss) (from 0 16))) (le-leb n (length (loaded ys)) (let z = part_long in omega (arith, z, k))))

    -- 18 that are apart are in no good table, so the first seventeen decide
    pub good_same : table_good whole ≡ table_good part
    good_same = by (ltb 17 n) refl
      where
        by : (b : Bool) → ltb 17 n ≡ b → table_good whole ≡ table_good part
        by false e = tests_same (ltb-false 17 n e)
        by true e =
            let more = ltb-true 17 n e in
            same_test (table_good whole) (table_good part)
            (λ t. absurd (let z = good_few (good t) in omega (arith, z, more)))
            (λ t. absurd (let z = good_few (good t) in omega (arith, z, more)))

-- ---- what is told

-- of what the code answers, where n stretches were free before
abbrev pub seat_for : Result ℕ SeatRefusal → ℕ → Seat
seat_for (Ok x) n = done_told x
seat_for (Err y) n = refusal_told y n

pub refusal-number : (y : SeatRefusal) (n : ℕ) → (refusal_told y n).number ≡ 0 → ⊥
refusal-number refusal.Table n e = omega (arith, e)
refusal-number (refusal.Pilot p) n e = omega (arith, e)
refusal-number (refusal.Length p) n e = omega (arith, e)
refusal-number (refusal.Pool p) n e = omega (arith, e)

seat_by : (a : Seated) (c n : ℕ) → (0 < number a → c ≡ n) → seat_for (answer_by a c) n ≡ record { number = number a; place = place a; free = c }
seat_by Done c n h = refl
seat_by Table c n h = rw (h (omega arith)) refl
seat_by (Pilot p) c n h = rw (h (omega arith)) refl
seat_by (Length p) c n h = rw (h (omega arith)) refl
seat_by (Pool p) c n h = rw (h (omega arith)) refl

-- which answers they are
pub ok_done : {A : Type 0} (a : Seated) (x : A) {l : A} → Ok l ≡ answer_by a x → (a ≡ Done) × (l ≡ x)
ok_done Done x e = (refl, (cc))
ok_done Table x e = cc
ok_done (Pilot p) x e = cc
ok_done (Length p) x e = cc
ok_done (Pool p) x e = cc

pub err_number : {A : Type 0} (a : Seated) (x : A) {y : SeatRefusal} → Err y ≡ answer_by a x → 0 < number a
err_number Done x e = cc
err_number Table x e = omega arith
err_number (Pilot p) x e = omega arith
err_number (Length p) x e = omega arith
err_number (Pool p) x e = omega arith

-- a leaving's answer without the stretch
abbrev pub free_in : Result Left SeatRefusal → Result ℕ SeatRefusal
free_in (Ok l) = Ok l.free
free_in (Err y) = Err y

pub free-answered : (g : Given) (s : Stretch) → free_in (left_answered g s) ≡ answered g
free-answered g s = by g.answer
  where
    by : (a : Seated) → free_in (answer_by a (record { free = g.hall.count; stretch = s })) ≡ answer_by a g.hall.count
    by Done = refl
    by Table = refl
    by (Pilot p) = refl
    by (Length p) = refl
    by (Pool p) = refl

module _ (room : ℕ) (h : Hall) where
  -- a refusal leaves the count
  counts : (g : Given) → (0 < number g.answer → g.hall.count ≡ h.count) → 0 < number (roomed room h g).answer → (roomed room h g).hall.count ≡ h.count
  counts g f = by (ltb room 17) refl
    where
      by : (b : Bool) → ltb room 17 ≡ b → 0 < number (roomed room h g).answer → (roomed room h g).hall.count ≡ h.count
      by true e k = ap (λ (x : Given). x.hall.count) (roomed_small room h g (ltb-true room 17 e))
      by false e k = let w = roomed_wide room h g (ltb-false room 17 e) in ap (λ (x : Given). x.hall.count) w ∙ f (subst (λ (x : Given). 0 < number x.answer) w k)

  pub admitted-told : (p w : ℕ) {r : Result ℕ SeatRefusal} → r ≡ answered (roomed room h (admit h p w)) → seat_for r h.count ≡ told (roomed room h (admit h p w))
  admitted-told p w e = ap (λ (x : Result ℕ SeatRefusal). seat_for x h.count) e ∙ seat_by (roomed room h (admit h p w)).answer (roomed room h (admit h p w)).hall.count h.count (counts (admit h p w) (by (admit_way h p w)))
    where
      by : AdmitWay h p w → 0 < number (admit h p w).answer → (admit h p w).hall.count ≡ h.count
      by (admitted g l k z c f q) n = absurd (let y = ap (λ (x : Given). number x.answer) q in omega (arith, n, y))
      by (turned_away a l d f) n = ap (λ (x : Given). x.hall.count) f

  pub left-told : (p : ℕ) {r : Result ℕ SeatRefusal} → r ≡ answered (roomed room h (leave h p)) → seat_for r h.count ≡ told (roomed room h (leave h p))
  left-told p e = ap (λ (x : Result ℕ SeatRefusal). seat_for x h.count) e ∙ seat_by (roomed room h (leave h p)).answer (roomed room h (leave h p)).hall.count h.count (counts (leave h p) (by (leave_way h p)))
    where
      by : LeaveWay h p → 0 < number (leave h p).answer → (leave h p).hall.count ≡ h.count
      by (left g l k q) n = absurd (let y = ap (λ (x : Given). number x.answer) q in omega (arith, n, y))
      by (kept_in a l d f) n = ap (λ (x : Given). x.hall.count) f

-- the same answer, the same count and the same stretches
pub record Alike (g g' : Given) : Type 0 where
  pub answer : g.answer ≡ g'.answer
  pub count : g.hall.count ≡ g'.hall.count
  pub seats : g.hall.seats ≡ g'.hall.seats

pub alike_told : {g g' : Given} → Alike g g' → told g ≡ told g'
alike_told {g} {g'} a = by a.answer a.count
  where
    by : {x y : Seated} {b c : ℕ} → x ≡ y → b ≡ c → ◌≡◌ {A = Seat} (record { number = number x; place = place x; free = b }) (record { number = number y; place = place y; free = c })
    by e f = rw (e, f) refl

module _ (ys : List Stretch) (n : ℕ) (ss : List (List (List ℕ))) (m p w : ℕ) where
  abbrev h₁ : Hall
  h₁ = hall_of ys n ss m

  abbrev h₂ : Hall
  h₂ = hall_of (loaded ys) n ss m

  refused_alike : (a : Seated) {g g' : Given} → g ≡ refused a h₁ → g' ≡ refused a h₂ → Alike g g'
  refused_alike a e f = record { answer = ap (λ (x : Given). x.answer) e ∙ sym (ap (λ (x : Given). x.answer) f); count = ap (λ (x : Given). x.hall.count) e ∙ sym (ap (λ (x : Given). x.hall.count) f); seats = ap (λ (x : Given). x.hall.seats) e ∙ sym (ap (λ (x : Given). x.hall.seats) f) }

  done_alike : (fs gs : List Stretch) (s : Stretch) {g g' : Given} → fs ≡ gs → g ≡ record { answer = Done; hall = with_seat h₁ fs p s } → g' ≡ record { answer = Done; hall = with_seat h₂ gs p s } → Alike g g'
  done_alike fs gs s d e f = record { answer = ap (λ (x : Given). x.answer) e ∙ sym (ap (λ (x : Given). x.answer) f); count = ap (λ (x : Given). x.hall.count) e ∙ ap length d ∙ sym (ap (λ (x : Given). x.hall.count) f); seats = ap (λ (x : Given). x.hall.seats) e ∙ sym (ap (λ (x : Given). x.hall.seats) f) }

  module _ (h : 17 ≤ length ys) where
    module _ (g : table_good h₁ ≡ true) where
      admit_g : table_good h₂ ≡ true
      admit_g = sym (good_same ys n ss m h) ∙ g

      admit-by-cut : p < 16 → (seat_of ss p).length ≡ 0 → (w ≡ 0 → ⊥) → (o : Option Cut) → cut_first w (take n ys) ≡ o → Alike (admit h₁ p w) (admit h₂ p w)
      admit-by-cut l k z none f =
          refused_alike (Pool p) (admit-cut h₁ p w g l k z ∙ ap (seat h₁ p w) f) (admit-cut h₂ p w admit_g l k z ∙ ap (seat h₂ p w) (ap (cut_first w) (free_same ys n ss m h (good_few (good g))) ∙ f))
      admit-by-cut l k z (some c) f =
          done_alike c.rest c.rest (record { start = c.start; length = w }) refl (admit-cut h₁ p w g l k z ∙ ap (seat h₁ p w) f) (admit-cut h₂ p w admit_g l k z ∙ ap (seat h₂ p w) (ap (cut_first w) (free_same ys n ss m h (good_few (good g))) ∙ f))

      admit-by-length : p < 16 → (seat_of ss p).length ≡ 0 → (b : Bool) → eqb w 0 ≡ b → Alike (admit h₁ p w) (admit h₂ p w)
      admit-by-length l k true f = refused_alike (Length p) (admit_none h₁ p w g l k (eqb-true w 0 f)) (admit_none h₂ p w admit_g l k (eqb-true w 0 f))
      admit-by-length l k false f = admit-by-cut l k (eqb-false w 0 f) (cut_first w (take n ys)) refl

      admit-by-seat : p < 16 → (b : Bool) → eqb (seat_of ss p).length 0 ≡ b → Alike (admit h₁ p w) (admit h₂ p w)
      admit-by-seat l true f = admit-by-length l (eqb-true (seat_of ss p).length 0 f) (eqb w 0) refl
      admit-by-seat l false f = let k = positive (seat_of ss p).length (eqb-false (seat_of ss p).length 0 f) in refused_alike (Pilot p) (admit_in h₁ p w g l k) (admit_in h₂ p w admit_g l k)

      admit-by-number : (b : Bool) → ltb p 16 ≡ b → Alike (admit h₁ p w) (admit h₂ p w)
      admit-by-number true f = admit-by-seat (ltb-true p 16 f) (eqb (seat_of ss p).length 0) refl
      admit-by-number false f = refused_alike (Pilot p) (admit-number h₁ p w g (ltb-false p 16 f)) (admit-number h₂ p w admit_g (ltb-false p 16 f))

    pub admit_alike : Alike (admit h₁ p w) (admit h₂ p w)
    admit_alike = by (table_good h₁) refl
      where
        by : (b : Bool) → table_good h₁ ≡ b → Alike (admit h₁ p w) (admit h₂ p w)
        by true g = admit-by-number g (ltb p 16) refl
        by false g = refused_alike Table (admit_bad h₁ p w g) (admit_bad h₂ p w (sym (good_same ys n ss m h) ∙ g))

    module _ (g : table_good h₁ ≡ true) where
      leave_g : table_good h₂ ≡ true
      leave_g = sym (good_same ys n ss m h) ∙ g

      leave-by-seat : p < 16 → (b : Bool) → eqb (seat_of ss p).length 0 ≡ b → Alike (leave h₁ p) (leave h₂ p)
      leave-by-seat l true f = let k = eqb-true (seat_of ss p).length 0 f in refused_alike (Pilot p) (leave_out h₁ p g l k) (leave_out h₂ p leave_g l k)
      leave-by-seat l false f =
          let k = positive (seat_of ss p).length (eqb-false (seat_of ss p).length 0 f) in
          done_alike (freed (seat_of ss p) (take n ys)) (freed (seat_of ss p) (take n (loaded ys))) empty (ap (freed (seat_of ss p)) (sym (free_same ys n ss m h (good_few (good g))))) (leave-done h₁ p g l k) (leave-done h₂ p leave_g l k)

      leave-by-number : (b : Bool) → ltb p 16 ≡ b → Alike (leave h₁ p) (leave h₂ p)
      leave-by-number true f = leave-by-seat (ltb-true p 16 f) (eqb (seat_of ss p).length 0) refl
      leave-by-number false f = refused_alike (Pilot p) (leave-number h₁ p g (ltb-false p 16 f)) (leave-number h₂ p leave_g (ltb-false p 16 f))

    pub leave_alike : Alike (leave h₁ p) (leave h₂ p)
    leave_alike = by (table_good h₁) refl
      where
        by : (b : Bool) → table_good h₁ ≡ b → Alike (leave h₁ p) (leave h₂ p)
        by true g = leave-by-number g (ltb p 16) refl
        by false g = refused_alike Table (leave_bad h₁ p g) (leave_bad h₂ p (sym (good_same ys n ss m h) ∙ g))

  -- the table then
  admit-table : (admit h₁ p w).hall.table ≡ pick (eqb (number (admit h₁ p w).answer) 0) (stored ys (cut_table (loaded ys) n (cut_first w (take n (loaded ys))))) ys
  unfolding cut_table
  admit-table = by (admit_way h₁ p w)
    where
      by : AdmitWay h₁ p w → (admit h₁ p w).hall.table ≡ pick (eqb (number (admit h₁ p w).answer) 0) (stored ys (cut_table (loaded ys) n (cut_first w (take n (loaded ys))))) ys
      by (turned_away a l d e) =
          ap (λ (x : Given). x.hall.table) e
          ∙ sym (ap (λ (b : Bool). pick b (stored ys (cut_table (loaded ys) n (cut_first w (take n (loaded ys))))) ys) (ap (λ (x : Given). eqb (number x.answer) 0) e ∙ ne_eqb (number a) 0 (λ z. omega (arith, l, z))))
      by (admitted g l k z c f e) =
          let few = good_few g in
          let long = cut_short w (take n ys) c f in
          let many = free_long g in
          ap (λ (x : Given). x.hall.table) e ∙ sym (tabled-stored ys n c.rest g.room few (omega (arith, long, many, few)))
          ∙ ap (λ (t : List Stretch). stored ys (tabled t n c.rest)) (sym (loaded-is ys g.room))
          ∙ ap (λ (o : Option Cut). stored ys (cut_table (loaded ys) n o)) (sym (ap (cut_first w) (free_same ys n ss m g.room few) ∙ f))
          ∙ sym (ap (λ (b : Bool). pick b (stored ys (cut_table (loaded ys) n (cut_first w (take n (loaded ys))))) ys) (ap (λ (x : Given). eqb (number x.answer) 0) e ∙ eq-eqb 0 0 refl))

  leave-table : length ss ≡ 16 → (leave h₁ p).hall.table ≡ pick (eqb (number (leave h₁ p).answer) 0) (stored ys (freed_table (loaded ys) n (leaver (leave h₁ p).answer (seat_of ss p)))) ys
  unfolding freed_table
  leave-table pilots = by (leave_way h₁ p)
    where
      by : LeaveWay h₁ p → (leave h₁ p).hall.table ≡ pick (eqb (number (leave h₁ p).answer) 0) (stored ys (freed_table (loaded ys) n (leaver (leave h₁ p).answer (seat_of ss p)))) ys
      by (kept_in a l d e) =
          ap (λ (x : Given). x.hall.table) e
          ∙ sym (ap (λ (b : Bool). pick b (stored ys (freed_table (loaded ys) n (leaver (leave h₁ p).answer (seat_of ss p)))) ys) (ap (λ (x : Given). eqb (number x.answer) 0) e ∙ ne_eqb (number a) 0 (λ z. omega (arith, l, z))))
      by (left g l k e) =
          let few = good_few g in
          ap (λ (x : Given). x.hall.table) e ∙ sym (tabled-stored ys n (freed (seat_of ss p) (take n ys)) g.room few (freed_few h₁ g pilots p l k))
          ∙ ap (λ (t : List Stretch). stored ys (tabled t n (freed (seat_of ss p) (take n ys)))) (sym (loaded-is ys g.room))
          ∙ ap (λ (t : List Stretch). stored ys (tabled (loaded ys) n (freed (seat_of ss p) t))) (sym (free_same ys n ss m g.room few))
          ∙ ap (λ (x : Given). stored ys (freed_table (loaded ys) n (leaver x.answer (seat_of ss p)))) (sym e)
          ∙ sym (ap (λ (b : Bool). pick b (stored ys (freed_table (loaded ys) n (leaver (leave h₁ p).answer (seat_of ss p)))) ys) (ap (λ (x : Given). eqb (number x.answer) 0) e ∙ eq-eqb 0 0 refl))

  -- ---- with the room of the table

  roomed_alike : (f : Hall → Given) → ((h : 17 ≤ length ys) → Alike (f h₁) (f h₂)) → (length ys < 17 → f h₁ ≡ refused Table h₁) → Alike (f h₁) (roomed (length ys) h₂ (f h₂))
  roomed_alike f wide small = by (ltb (length ys) 17) refl
    where
      by : (b : Bool) → ltb (length ys) 17 ≡ b → Alike (f h₁) (roomed (length ys) h₂ (f h₂))
      by true e = let l = ltb-true (length ys) 17 e in refused_alike Table (small l) (roomed_small (length ys) h₂ (f h₂) l)
      by false e = let l = ltb-false (length ys) 17 e in subst (Alike (f h₁)) (sym (roomed_wide (length ys) h₂ (f h₂) l)) (wide l)

  pub admit-roomed : Alike (admit h₁ p w) (roomed (length ys) h₂ (admit h₂ p w))
  admit-roomed = roomed_alike (λ h. admit h p w) admit_alike (λ l. admit_bad h₁ p w (small_bad ys n ss m l))

  pub leave-roomed : Alike (leave h₁ p) (roomed (length ys) h₂ (leave h₂ p))
  leave-roomed = roomed_alike (λ h. leave h p) leave_alike (λ l. leave_bad h₁ p (small_bad ys n ss m l))

  -- ---- what an entry that was told so has done

  abbrev g₁ : Given
  g₁ = roomed (length ys) h₂ (admit h₂ p w)

  module _ {s : Seat} {zs : List Stretch} {ws : List (List (List ℕ))} where
    pub admit-is : s ≡ told g₁ → zs ≡ pick (eqb s.number 0) (stored ys (cut_table (loaded ys) n (cut_first w (take n (loaded ys))))) ys → ws ≡ g₁.hall.seats
        → (s ≡ told (admit h₁ p w)) × ((zs ≡ (admit h₁ p w).hall.table) × (ws ≡ (admit h₁ p w).hall.seats))
    admit-is e f d =
        let told_is : s ≡ told (admit h₁ p w) = e ∙ sym (alike_told admit-roomed) in
        (told_is, (f ∙ ap (λ (x : Seat). pick (eqb x.number 0) (stored ys (cut_table (loaded ys) n (cut_first w (take n (loaded ys))))) ys) told_is ∙ sym admit-table, d ∙ sym admit-roomed.seats))

  -- where number 0 is told there are seventeen places, and the table may be cut
  pub admit_ready : m ≤ 4294967295 → eqb (told (roomed (length ys) h₂ (admit h₂ p w))).number 0 ≡ true → (17 ≤ length ys) × Ready (loaded ys) n
  admit_ready fits e = by (admit_way h₁ p w)
    where
      zero-told : number (admit h₁ p w).answer ≡ 0
      zero-told = ap number admit-roomed.answer ∙ eqb-true (number (roomed (length ys) h₂ (admit h₂ p w)).answer) 0 e

      by : AdmitWay h₁ p w → (17 ≤ length ys) × Ready (loaded ys) n
      by (turned_away a l d f) = absurd (let z = sym (ap (λ (x : Given). number x.answer) f) ∙ zero-told in omega (arith, z, l))
      by (admitted g l k z c f q) = (g.room, ready g)
        where
          ready : Good h₁ → Ready (loaded ys) n
          ready g = record { few = good_few g; safe = λ i j. let y = free_end g i j in let x = ap end_of (place i j) in omega (arith, y, x, fits) }
            where
              place : (i : ℕ) → i < n → get_or (loaded ys) i empty ≡ get_or (take n ys) i empty
              place i j = sym (get_or-take n (loaded ys) i empty j) ∙ ap (λ (t : List Stretch). get_or t i empty) (free_same ys n ss m g.room (good_few g))

  module _ (pilots : length ss ≡ 16) where
    pub leave_ready : m ≤ 4294967295 → eqb (number (roomed (length ys) h₂ (leave h₂ p)).answer) 0 ≡ true → (17 ≤ length ys) × ReadyFor (loaded ys) n (leaver (roomed (length ys) h₂ (leave h₂ p)).answer (seat_of ss p))
    leave_ready fits e = by (leave_way h₁ p)
      where
        zero-told : number (leave h₁ p).answer ≡ 0
        zero-told = ap number leave-roomed.answer ∙ eqb-true (number (roomed (length ys) h₂ (leave h₂ p)).answer) 0 e

        by : LeaveWay h₁ p → (17 ≤ length ys) × ReadyFor (loaded ys) n (leaver (roomed (length ys) h₂ (leave h₂ p)).answer (seat_of ss p))
        by (kept_in a l d f) = absurd (let z = sym (ap (λ (x : Given). number x.answer) f) ∙ zero-told in omega (arith, z, l))
        by (left g l k q) = (g.room, subst (λ (a : Seated). ReadyFor (loaded ys) n (leaver a (seat_of ss p))) (sym (ap (λ (x : Given). x.answer) q) ∙ leave-roomed.answer) (ready g))
          where
            ready : Good h₁ → ReadyFor (loaded ys) n (seat_of ss p)
            ready g =
                record {
                  few = good_few g;
                  safe = λ i j. let y = free_end g i j in let x = ap end_of (place i j) in omega (arith, y, x, fits);
                  fits = (let y = seat_end g p l k in omega (arith, y, fits));
                  room = (let y = freed_few h₁ g pilots p l k in let x = ap (λ (t : List Stretch). length (freed (seat_of ss p) t)) (free_same ys n ss m g.room (good_few g)) in omega (arith, y, x));
                }
              where
                place : (i : ℕ) → i < n → get_or (loaded ys) i empty ≡ get_or (take n ys) i empty
                place i j = sym (get_or-take n (loaded ys) i empty j) ∙ ap (λ (t : List Stretch). get_or t i empty) (free_same ys n ss m g.room (good_few g))

    pub leave-table-is : {zs : List Stretch} {a : Seated} → a ≡ (roomed (length ys) h₂ (leave h₂ p)).answer → zs ≡ pick (eqb (number a) 0) (stored ys (freed_table (loaded ys) n (leaver a (seat_of ss p)))) ys → zs ≡ (leave h₁ p).hall.table
    leave-table-is {zs} {a} d f =
        f ∙ ap (λ (x : Seated). pick (eqb (number x) 0) (stored ys (freed_table (loaded ys) n (leaver x (seat_of ss p)))) ys) (d ∙ sym leave-roomed.answer) ∙ sym (leave-table pilots)
