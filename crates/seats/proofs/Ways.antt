-- The ways out of an admission and of a leaving, and what is told at each.
use Prim.Native.Nat.{ℕ, zero, suc, ◌-◌, ◌≤◌, ◌<◌}
use native.Mathlib.Omega.{arith}
use mathlib.Core.Path.{◌≡◌, refl, sym, ap, ◌∙◌}
use mathlib.Core.Bool.{Bool, true, false, ◌&&◌}
use mathlib.Core.List.{List, [], ◌∷◌}
use lib.Dec.{ltb, eqb}
use lib.ListN.{length, take, get_or, set, replicate}
use borrow.Author.Tests.{eq-eqb, ne_eqb, lt-ltb, le-ltb, ltb-true, ltb-false}
use Rattle.free_table.specs.declared.Stretch.{Stretch}
use Rattle.free_table.specs.Table.{empty, pick}
use Rattle.seats.specs.declared.Left.{Left}
use Rattle.seats.specs.Seats.{Hall, free_of, seat_of, is_in, table_good, cut_first, freed, Seated, Done, Table, Pilot, Length, Pool, Given, refused, with_seat, seat, admit, leave}
use Rattle.std.specs.Prelude.{Result, Ok, Err}
use Rattle.seats.specs.declared.SeatRefusal.{SeatRefusal}
use Rattle.seats.specs.declared.SeatRefusal.TheVariants as refusal
use Rattle.seats.specs.Told.{hall_of, answer_by, answered, left_answered, roomed}
use Rattle.seats.specs.Plan.{first_from}
use Rattle.seats.proofs.Fit.{Found, none_found, found_at, found_start, found_count}
use Rattle.seats.proofs.Gather.{too_many}

module _ (h : Hall) (p : ℕ) where
  module _ (w : ℕ) where
    abbrev third : Bool → Given
    third b = elim b [ true ↦ refused (Length p) h | false ↦ seat h p w (cut_first w (free_of h)) ]

    abbrev second : Bool → Given
    second b = elim b [ false ↦ refused (Pilot p) h | true ↦ third (eqb w 0) ]

    abbrev first : Bool → Given
    first b = elim b [ false ↦ refused Table h | true ↦ second (ltb p 16 && eqb (seat_of h.seats p).length 0) ]

    pub admit_bad : table_good h ≡ false → admit h p w ≡ refused Table h
    unfolding admit
    admit_bad e = ap first e

    module _ (good : table_good h ≡ true) where
      admit_good : admit h p w ≡ second (ltb p 16 && eqb (seat_of h.seats p).length 0)
      unfolding admit
      admit_good = ap first good

      pub admit-number : 16 ≤ p → admit h p w ≡ refused (Pilot p) h
      admit-number k = admit_good ∙ ap (λ (b : Bool). second (b && eqb (seat_of h.seats p).length 0)) (le-ltb p 16 k)

      module _ (pilot : p < 16) where
        pub admit_in : 0 < (seat_of h.seats p).length → admit h p w ≡ refused (Pilot p) h
        admit_in k =
            admit_good ∙ ap (λ (b : Bool). second (b && eqb (seat_of h.seats p).length 0)) (lt-ltb p 16 pilot)
            ∙ ap second (ne_eqb (seat_of h.seats p).length 0 (λ z. omega (arith, k, z)))

        module _ (out : (seat_of h.seats p).length ≡ 0) where
          admit_out : admit h p w ≡ third (eqb w 0)
          admit_out =
              admit_good ∙ ap (λ (b : Bool). second (b && eqb (seat_of h.seats p).length 0)) (lt-ltb p 16 pilot)
              ∙ ap second (eq-eqb (seat_of h.seats p).length 0 out)

          pub admit_none : w ≡ 0 → admit h p w ≡ refused (Length p) h
          admit_none k = admit_out ∙ ap third (eq-eqb w 0 k)

          pub admit-cut : (w ≡ 0 → ⊥) → admit h p w ≡ seat h p w (cut_first w (free_of h))
          admit-cut k = admit_out ∙ ap third (ne_eqb w 0 k)

  abbrev left : Given
  left = record { answer = Done; hall = with_seat h (freed (seat_of h.seats p) (free_of h)) p empty }

  abbrev leave_second : Bool → Given
  leave_second b = elim b [ false ↦ refused (Pilot p) h | true ↦ left ]

  abbrev leave-first : Bool → Given
  leave-first b = elim b [ false ↦ refused Table h | true ↦ leave_second (ltb p 16 && is_in h.seats p) ]

  pub leave_bad : table_good h ≡ false → leave h p ≡ refused Table h
  unfolding leave
  leave_bad e = ap leave-first e

  module _ (good : table_good h ≡ true) where
    leave_good : leave h p ≡ leave_second (ltb p 16 && is_in h.seats p)
    unfolding leave
    leave_good = ap leave-first good

    pub leave-number : 16 ≤ p → leave h p ≡ refused (Pilot p) h
    leave-number k = leave_good ∙ ap (λ (b : Bool). leave_second (b && is_in h.seats p)) (le-ltb p 16 k)

    module _ (pilot : p < 16) where
      pub leave_out : (seat_of h.seats p).length ≡ 0 → leave h p ≡ refused (Pilot p) h
      leave_out k =
          leave_good ∙ ap (λ (b : Bool). leave_second (b && is_in h.seats p)) (lt-ltb p 16 pilot)
          ∙ ap leave_second (le-ltb 0 (seat_of h.seats p).length (omega (arith, k)))

      pub leave-done : 0 < (seat_of h.seats p).length → leave h p ≡ left
      leave-done k = leave_good ∙ ap (λ (b : Bool). leave_second (b && is_in h.seats p)) (lt-ltb p 16 pilot) ∙ ap leave_second (lt-ltb 0 (seat_of h.seats p).length k)

-- ---- the room

pub roomed_small : (room : ℕ) (h : Hall) (g : Given) → room < 17 → roomed room h g ≡ refused Table h
unfolding roomed
roomed_small room h g k = ap (λ (b : Bool). pick b (refused Table h) g) (lt-ltb room 17 k)

pub roomed_wide : (room : ℕ) (h : Hall) (g : Given) → 17 ≤ room → roomed room h g ≡ g
unfolding roomed
roomed_wide room h g k = ap (λ (b : Bool). pick b (refused Table h) g) (le-ltb room 17 k)

-- a good table of seventeen has at most seventeen in use
pub good_few : (t : List Stretch) (n : ℕ) (ss : List (List (List ℕ))) (m : ℕ) → length t ≡ 17 → table_good (hall_of t n ss m) ≡ true → n ≤ 17
good_few t n ss m long e = by (ltb 17 n) refl
  where
    by : (b : Bool) → ltb 17 n ≡ b → n ≤ 17
    by false f = ltb-false 17 n f
    by true f = absurd (not-both (too_many t n ss m long (ltb-true 17 n f) ∙ e))
      where
        not-both : ◌≡◌ {A = Bool} false true → ⊥
        not-both z = let y : ◌≡◌ {A = ℕ} 0 1 = cc in omega arith

-- ---- the code's ways out of an admission

module _ (t : List Stretch) (n : ℕ) (ss : List (List (List ℕ))) (m room p w : ℕ) where
  abbrev hall : Hall
  hall = hall_of t n ss m

  abbrev given : Given
  given = roomed room hall (admit hall p w)

  abbrev Out : Result ℕ SeatRefusal → List (List (List ℕ)) → Type 0
  Out r ws = (r ≡ answered given) × (ws ≡ given.hall.seats)

  refuses : {a : Seated} → given ≡ refused a hall → Out (answer_by a n) ss
  refuses e = (sym (ap answered e), sym (ap (λ (g : Given). g.hall.seats) e))

  pub out_room : room < 17 → Out (Err refusal.Table) ss
  out_room h = refuses {a = Table} (roomed_small room hall (admit hall p w) h)

  module _ (wide : 17 ≤ room) where
    is : {g : Given} → admit hall p w ≡ g → given ≡ g
    is e = roomed_wide room hall (admit hall p w) wide ∙ e

    module _ {b : Bool} (tested : b ≡ table_good hall) where
      pub out_table : b ≡ false → Out (Err refusal.Table) ss
      out_table k = refuses {a = Table} (is (admit_bad hall p w (sym tested ∙ k)))

      module _ (passed : b ≡ true) where
        pub good : table_good hall ≡ true
        good = sym tested ∙ passed

        pub out_number : 15 < p → Out (Err (refusal.Pilot p)) ss
        out_number k = refuses {a = Pilot p} (is (admit-number hall p w good (omega (arith, k))))

        module _ (pilot : p ≤ 15) where
          pub out_in : 0 < (seat_of ss p).length → Out (Err (refusal.Pilot p)) ss
          out_in k = refuses {a = Pilot p} (is (admit_in hall p w good (omega (arith, pilot)) k))

          module _ (out : (seat_of ss p).length ≤ 0) where
            pub out_length : w ≡ 0 → Out (Err (refusal.Length p)) ss
            out_length k = refuses {a = Length p} (is (admit_none hall p w good (omega (arith, pilot)) (omega (arith, out)) k))

            module _ (some-rows : w ≡ 0 → ⊥) (long : length t ≡ 17) where
              few : n ≤ length t
              few = let z = good_few t n ss m long good in omega (arith, z, long)

              cut : admit hall p w ≡ seat hall p w (cut_first w (take n t))
              cut = admit-cut hall p w good (omega (arith, pilot)) (omega (arith, out)) some-rows

              pub out_pool : n ≤ first_from t w 0 n → Out (Err (refusal.Pool p)) ss
              out_pool k = refuses {a = Pool p} (is (cut ∙ ap (seat hall p w) (none_found t n w few refl k)))

              module _ {i : ℕ} (found : i ≡ first_from t w 0 n) (k : i < n) where
                abbrev here : Found w (take n t) i
                here = found_at t n w few found k

                seated : given ≡ record { answer = Done; hall = with_seat hall here.cut.rest p (record { start = here.cut.start; length = w }) }
                seated = is (cut ∙ ap (seat hall p w) here.is)

                done : {x : ℕ} → x ≡ length here.cut.rest → Out (Ok x) (set ss p (replicate 5 ((get_or t i empty).start ∷ w ∷ [])))
                done e = (
                  ap Ok e ∙ sym (ap answered seated),
                  ap (λ (y : ℕ). set ss p (replicate 5 (y ∷ w ∷ []))) (sym (found_start t n w few found k)) ∙ sym (ap (λ (g : Given). g.hall.seats) seated),
                )

                pub out_all : (get_or t i empty).length ≡ w → Out (Ok (n - 1)) (set ss p (replicate 5 ((get_or t i empty).start ∷ w ∷ [])))
                out_all e = done (sym (found_count t n w few found k ∙ ap (λ (b : Bool). pick b (n - 1) n) (eq-eqb (get_or t i empty).length w e)))

                pub out_part : ((get_or t i empty).length ≡ w → ⊥) → Out (Ok n) (set ss p (replicate 5 ((get_or t i empty).start ∷ w ∷ [])))
                out_part e = done (sym (found_count t n w few found k ∙ ap (λ (b : Bool). pick b (n - 1) n) (ne_eqb (get_or t i empty).length w e)))

-- ---- and of a leaving

module _ (t : List Stretch) (n : ℕ) (ss : List (List (List ℕ))) (m room p : ℕ) where
  abbrev leaving : Hall
  leaving = hall_of t n ss m

  abbrev leaves : Given
  leaves = roomed room leaving (leave leaving p)

  abbrev Says : Result Left SeatRefusal → Type 0
  Says r = r ≡ left_answered leaves (seat_of ss p)

  says : {g : Given} → leaves ≡ g → Says (left_answered g (seat_of ss p))
  says e = sym (ap (λ (g : Given). left_answered g (seat_of ss p)) e)

  pub left_room : room < 17 → Says (Err refusal.Table)
  left_room h = says (roomed_small room leaving (leave leaving p) h)

  module _ (wide : 17 ≤ room) {b : Bool} (tested : b ≡ table_good leaving) where
    so : {g : Given} → leave leaving p ≡ g → leaves ≡ g
    so e = roomed_wide room leaving (leave leaving p) wide ∙ e

    pub left_table : b ≡ false → Says (Err refusal.Table)
    left_table k = says (so (leave_bad leaving p (sym tested ∙ k)))

    module _ (passed : b ≡ true) where
      sound : table_good leaving ≡ true
      sound = sym tested ∙ passed

      pub left_few : length t ≡ 17 → n ≤ 17
      left_few long = good_few t n ss m long sound

      pub left_number : 15 < p → Says (Err (refusal.Pilot p))
      left_number k = says (so (leave-number leaving p sound (omega (arith, k))))

      -- the stretch s as the code reads it
      module _ (pilot : p ≤ 15) {s : Stretch} (own : s ≡ seat_of ss p) where
        pub left_out : s.length ≡ 0 → Says (Err (refusal.Pilot p))
        left_out k = says (so (leave_out leaving p sound (omega (arith, pilot)) (sym (ap (λ (x : Stretch). x.length) own) ∙ k)))

        pub left_done : {x : ℕ} → (s.length ≡ 0 → ⊥) → x ≡ length (freed s (take n t)) → Says (Ok (record { free = x; stretch = s }))
        left_done {x} k e =
            same own e ∙ says (so (leave-done leaving p sound (omega (arith, pilot)) (positive (seat_of ss p).length (λ z. k (ap (λ (y : Stretch). y.length) own ∙ z)))))
          where
            same : {r : Stretch} → s ≡ r → x ≡ length (freed s (take n t)) → ◌≡◌ {A = Result Left SeatRefusal} (Ok (record { free = x; stretch = s })) (Ok (record { free = length (freed r (take n t)); stretch = r }))
            same f g = rw (g, f) refl

            positive : (y : ℕ) → (y ≡ 0 → ⊥) → 0 < y
            positive zero z = absurd (z refl)
            positive (suc y) z = omega arith
