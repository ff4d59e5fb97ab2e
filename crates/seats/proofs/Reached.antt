-- "reached-good", "lowest-run", "serves-again": what holds of any calls, one after another.
use Prim.Native.Nat.{ℕ, ◌+◌, ◌≤◌, ◌<◌}
use native.Mathlib.Omega.{arith}
use mathlib.Core.Path.{◌≡◌, refl, sym, ap, ◌∙◌, subst}
use mathlib.Core.Bool.{Bool, true, false}
use mathlib.Core.List.{List, [], ◌∷◌, ◌++◌}
use mathlib.Core.Option.{Option, none, some}
use lib.Dec.{leb, ltb}
use lib.ListN.{length, take, replicate, length-set}
use borrow.Author.Tests.{leb-false, ltb-true, ltb-false}
use Rattle.free_table.specs.declared.Stretch.{Stretch}
use Rattle.free_table.specs.Table.{empty}
use Rattle.seats.specs.Tiling.{end_of, one, how_many, lengths, tiled}
use Rattle.seats.specs.Seats.{Hall, free_of, seat_of, seats_of, apart, table_good, Cut, behind, taken, cut_first, freed, five, Done, Table, number, Given, with_seat, seat, admit, leave}
use Rattle.seats.specs.Calls.{Call, Admit, Leave, then, after, start, FreeRun, Placed, at, nowhere}
use Rattle.seats.proofs.Rows.{cut_rows, some_same}
use Rattle.seats.proofs.Apart.{apart_tail}
use Rattle.seats.proofs.Same.{tiled-by, empties_hold}
use Rattle.seats.proofs.Few.{is_in_lem, past_it, none_before, gap}
use Rattle.seats.proofs.Fit.{cut-yes, cut_no}
use Rattle.seats.proofs.Good.{Good, good_by, good_conserves, rows_of, in_pool, own_seat, cut_keeps, freed_keeps, freed_rows}
use Rattle.seats.proofs.Ways.{admit-cut, leave-done}
use Rattle.seats.proofs.Either.{AdmitWay, admitted, turned_away, admit_way, LeaveWay, left, kept_in, leave_way}

-- a good table, and stretches of sixteen pilots
pub record Sound (h : Hall) : Type 0 where
  pub good : Good h
  pub pilots : length h.seats ≡ 16

-- ---- reached-good

sound_then : (h h' : Hall) → h ≡ h' → Sound h' → Sound h
sound_then h h' e s = subst Sound (sym e) s

pub admit_sound : (h : Hall) (p w : ℕ) → Sound h → Sound (admit h p w).hall
admit_sound h p w s = by (admit_way h p w)
  where
    by : AdmitWay h p w → Sound (admit h p w).hall
    by (turned_away a n d e) = subst (λ (g : Given). Sound g.hall) (sym e) s
    by (admitted g l k n c f e) =
        subst (λ (g : Given). Sound g.hall) (sym e)
        (record { good = cut_keeps h s.good s.pilots p l k w c f; pilots = length-set h.seats p (five (record { start = c.start; length = w })) ∙ s.pilots })

pub leave_sound : (h : Hall) (p : ℕ) → Sound h → Sound (leave h p).hall
leave_sound h p s = by (leave_way h p)
  where
    by : LeaveWay h p → Sound (leave h p).hall
    by (kept_in a n d e) = subst (λ (g : Given). Sound g.hall) (sym e) s
    by (left g l k e) =
        subst (λ (g : Given). Sound g.hall) (sym e) (record { good = freed_keeps h s.good s.pilots p l k; pilots = length-set h.seats p (five empty) ∙ s.pilots })

pub then_sound : (c : Call) (h : Hall) → Sound h → Sound (then c h)
then_sound (Admit p w) h s = admit_sound h p w s
then_sound (Leave p) h s = leave_sound h p s

pub after_sound : (cs : List Call) (h : Hall) → Sound h → Sound (after cs h)
after_sound [] h s = s
after_sound (c ∷ cs) h s = after_sound cs (then c h) (then_sound c h s)

-- "the whole pool is free"
pub start_sound : (n : ℕ) (more : List Stretch) → 16 ≤ length more → Sound (start n more)
start_sound n more h = record { good = by (ltb 0 n) refl; pilots = refl }
  where
    whole : Stretch
    whole = record { start = 0; length = n }

    fields : (b : Bool) → ltb 0 n ≡ b → (apart (take (one b) (record { start = 0; length = n } ∷ more)) ≡ true) × (tiled n (take (one b) (record { start = 0; length = n } ∷ more) ++ replicate 16 empty) ≡ true)
    fields true e = (
      e,
      tiled-by (record {
        rows = λ i l. (let z = empties_hold i 16 in let y = is_in_lem i (record { start = 0; length = n }) (omega arith) (omega (arith, l)) in omega (arith, z, y));
        above = λ i l. (let z = empties_hold i 16 in let y = past_it i (record { start = 0; length = n }) (omega (arith, l)) in omega (arith, z, y));
      }),
    )
    fields false e = (
      refl,
      tiled-by (record { rows = λ i l. absurd (let z = ltb-false 0 n e in omega (arith, z, l)); above = λ i l. empties_hold i 16 }),
    )

    by : (b : Bool) → ltb 0 n ≡ b → Good (start n more)
    by b e =
        let f = fields b e in
        record {
          room = omega (arith, h);
          count = (let z = small b in let y = ap one e in omega (arith, z, y));
          same = refl;
          ordered = ap (λ (c : Bool). apart (take (one c) (record { start = 0; length = n } ∷ more))) e ∙ f.0;
          tiling = ap (λ (c : Bool). tiled n (take (one c) (record { start = 0; length = n } ∷ more) ++ replicate 16 empty)) e ∙ f.1;
        }
      where
        small : (c : Bool) → one c ≤ 1
        small true = omega arith
        small false = omega arith

-- from the start, whatever is called: a good table, so no TABLE
pub reached_good : (n : ℕ) (more : List Stretch) → 16 ≤ length more → (cs : List Call) → table_good (after cs (start n more)) ≡ true
reached_good n more h cs = good_by (after_sound cs (start n more) (start_sound n more h)).good

rows_stay : (cs : List Call) (h : Hall) → (after cs h).rows ≡ h.rows
rows_stay [] h = refl
rows_stay (c ∷ cs) h = rows_stay cs (then c h) ∙ by c
  where
    by-admit : (p w : ℕ) → AdmitWay h p w → (admit h p w).hall.rows ≡ h.rows
    by-admit p w (admitted g l k n c f e) = ap (λ (x : Given). x.hall.rows) e
    by-admit p w (turned_away a n d e) = ap (λ (x : Given). x.hall.rows) e

    by_leave : (p : ℕ) → LeaveWay h p → (leave h p).hall.rows ≡ h.rows
    by_leave p (left g l k e) = ap (λ (x : Given). x.hall.rows) e
    by_leave p (kept_in a n d e) = ap (λ (x : Given). x.hall.rows) e

    by : (c : Call) → (then c h).rows ≡ h.rows
    by (Admit p w) = by-admit p w (admit_way h p w)
    by (Leave p) = by_leave p (leave_way h p)

-- "after any sequence of calls" free rows and those of the pilots make the whole pool
pub conserved : (n : ℕ) (more : List Stretch) → 16 ≤ length more → (cs : List Call) → let h = after cs (start n more) in lengths (free_of h) + lengths (seats_of h) ≡ n
conserved n more k cs = good_conserves (after_sound cs (start n more) (start_sound n more k)).good ∙ rows_stay cs (start n more)

-- "so TABLE is never given": a call of a sound hall is not told TABLE
pub never_table : (h : Hall) → Sound h → (p w : ℕ) → ((admit h p w).answer ≡ Table → ⊥) × ((leave h p).answer ≡ Table → ⊥)
never_table h s p w = (by-admit (admit_way h p w), by_leave (leave_way h p))
  where
    by-admit : AdmitWay h p w → (admit h p w).answer ≡ Table → ⊥
    by-admit (admitted g l k n c f e) z = (let y = ap number (sym (ap (λ (x : Given). x.answer) e) ∙ z) in omega (arith, y))
    by-admit (turned_away a n d e) z = d (good_by s.good) (ap number (sym (ap (λ (x : Given). x.answer) e) ∙ z))

    by_leave : LeaveWay h p → (leave h p).answer ≡ Table → ⊥
    by_leave (left g l k e) z = (let y = ap number (sym (ap (λ (x : Given). x.answer) e) ∙ z) in omega (arith, y))
    by_leave (kept_in a n d e) z = d (good_by s.good) (ap number (sym (ap (λ (x : Given). x.answer) e) ∙ z))

-- ---- lowest-run

-- a run of rows that free stretches have
abbrev Run : List Stretch → ℕ → ℕ → Type 0
Run fs i w = (j : ℕ) → i ≤ j → j < i + w → 1 ≤ how_many j fs

low-row : (s : Stretch) (r : List Stretch) (i : ℕ) → apart (s ∷ r) ≡ true → 1 ≤ how_many i (s ∷ r) → s.start ≤ i
low-row s r i a h = by (ltb i s.start) refl
  where
    by : (b : Bool) → ltb i s.start ≡ b → s.start ≤ i
    by false e = ltb-false i s.start e
    by true e = absurd (let z = none_before i (s ∷ r) a e in omega (arith, z, h))

pub record Fits (w i : ℕ) (fs : List Stretch) : Type 0 where
  pub cut : Cut
  pub is : cut_first w fs ≡ some cut
  pub low : cut.start ≤ i

pub first_fit : (w i : ℕ) → 0 < w → (fs : List Stretch) → apart fs ≡ true → Run fs i w → Fits w i fs
first_fit w i n [] a h = absurd (let z = h i (omega arith) (omega (arith, n)) in omega (arith, z))
first_fit w i n (s ∷ r) a h = by (leb w s.length) refl (λ k. first_fit w i n r (apart_tail s r a) k)
  where
    here : s.start ≤ i
    here = low-row s r i a (h i (omega arith) (omega (arith, n)))

    by : (b : Bool) → leb w s.length ≡ b → (Run r i w → Fits w i r) → Fits w i (s ∷ r)
    by true e f = record { cut = taken w s r; is = cut-yes w s r e; low = here }
    by false e f =
        let short = leb-false w s.length e in
        let d = f (λ j l k. let z = h j l k in let y = past_it j s (let x = past (ltb i (end_of s)) refl short in omega (arith, x, l)) in omega (arith, z, y)) in
        record { cut = record { start = d.cut.start; rest = s ∷ d.cut.rest }; is = cut_no w s r e ∙ ap (behind s) d.is; low = d.low }
      where
        past : (b : Bool) → ltb i (end_of s) ≡ b → s.length < w → end_of s ≤ i
        past false g k = ltb-false i (end_of s) g
        past true g k = absurd (let m = ltb-true i (end_of s) g in let z = h (end_of s) (omega (arith, m)) (omega (arith, here, k)) in let y = gap s r a in omega (arith, z, y))

module _ {h : Hall} (s : Sound h) where
  free_run : (i w : ℕ) → FreeRun h i w → Run (free_of h) i w
  free_run i w f j l k = let z = rows_of s.good j (f j l k).0 in let y = (f j l k).1 in omega (arith, z, y)

  run_free : (i w : ℕ) → Run (free_of h) i w → FreeRun h i w
  run_free i w f j l k =
      let few = f j l k in
      let low = in_pool s.good j (omega (arith, few)) in (low, (let z = rows_of s.good j low in omega (arith, z, few)))

  cut-run : (w : ℕ) (c : Cut) → cut_first w (free_of h) ≡ some c → Run (free_of h) c.start w
  cut-run w c e j l k = let z = (cut_rows w (free_of h) c e).rows j in let y = is_in_lem j (record { start = c.start; length = w }) l k in omega (arith, z, y)

  -- "the lowest run of that many free rows", or POOL
  pub lowest_run : (p w : ℕ) → p < 16 → (seat_of h.seats p).length ≡ 0 → 0 < w → Placed h p w
  lowest_run p w l k n = by (cut_first w (free_of h)) refl
    where
      cut : admit h p w ≡ seat h p w (cut_first w (free_of h))
      cut = admit-cut h p w (good_by s.good) l k (λ z. omega (arith, n, z))

      none_some : {A X : Type 0} {y : A} → ◌≡◌ {A = Option A} none (some y) → X
      none_some e = absurd (let z : ◌≡◌ {A = ℕ} 0 1 = cc in omega arith)

      by : (o : Option Cut) → cut_first w (free_of h) ≡ o → Placed h p w
      by none e = nowhere (ap (λ (g : Given). g.answer) (cut ∙ ap (seat h p w) e)) (λ i f. let d = first_fit w i n (free_of h) s.good.ordered (free_run i w f) in none_some (sym e ∙ d.is))
      by (some c) e =
          at c.start (ap (λ (g : Given). g.answer) (cut ∙ ap (seat h p w) e))
          (ap (λ (g : Given). seat_of g.hall.seats p) (cut ∙ ap (seat h p w) e) ∙ own_seat h s.good s.pilots p l (record { start = c.start; length = w }))
          (run_free c.start w (cut-run w c e))
          (λ i f. let d = first_fit w i n (free_of h) s.good.ordered (free_run i w f) in subst (λ (x : Cut). x.start ≤ i) (some_same (sym d.is ∙ e)) d.low)

-- ---- serves-again

pub serves_again : (h : Hall) (p q w : ℕ) → Sound h → p < 16 → 0 < (seat_of h.seats p).length → q < 16 → let h' = (leave h p).hall in (seat_of h'.seats q).length ≡ 0 → 0 < w → w ≤ (seat_of h.seats p).length
    → (admit h' q w).answer ≡ Done
serves_again h p q w s l k m out n f = by (lowest_run (leave_sound h p s) q w m out n)
  where
    e : leave h p ≡ record { answer = Done; hall = with_seat h (freed (seat_of h.seats p) (free_of h)) p empty }
    e = leave-done h p (good_by s.good) l k

    free_rows : Run (freed (seat_of h.seats p) (free_of h)) (seat_of h.seats p).start w
    free_rows j a b = let z = freed_rows h s.good s.pilots p l k j in let y = is_in_lem j (seat_of h.seats p) a (omega (arith, b, f)) in omega (arith, z, y)

    by : Placed (leave h p).hall q w → (admit (leave h p).hall q w).answer ≡ Done
    by (at a d x y z) = d
    by (nowhere d x) = absurd (x (seat_of h.seats p).start (λ j a b. run_free (leave_sound h p s) (seat_of h.seats p).start w here j a b))
      where
        here : Run (free_of (leave h p).hall) (seat_of h.seats p).start w
        here j a b = let z = free_rows j a b in let y = ap (λ (fs : List Stretch). how_many j fs) free_is in omega (arith, z, y)
          where
            free_is : free_of (leave h p).hall ≡ freed (seat_of h.seats p) (free_of h)
            free_is = ap (λ (g : Given). free_of g.hall) e ∙ taken-front (freed (seat_of h.seats p) (free_of h)) _
              where
                taken-front : (x y : List Stretch) → take (length x) (x ++ y) ≡ x
                taken-front [] y = refl
                taken-front (t ∷ x) y = ap (λ (z : List Stretch). t ∷ z) (taken-front x y)
