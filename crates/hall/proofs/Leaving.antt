-- What a leaver's answer says: it left, its rows lie in every column, and what is cleared is what the definition clears; or nothing changed.
use Prim.Native.Nat.{ℕ, ◌+◌, ◌≤◌, ◌<◌, min}
use native.Mathlib.Omega.{arith}
use mathlib.Core.Path.{◌≡◌, refl, sym, ap, ◌∙◌}
use mathlib.Core.Bool.{Bool, true, false}
use mathlib.Core.List.{List, [], ◌∷◌}
use lib.Dec.{ltb}
use lib.ListN.{length, set, replicate}
use borrow.Author.Tests.{ltb-true, ltb-false}
use Rattle.promises.specs.Pilots.{Pool}
use Rattle.free_table.specs.declared.Stretch.{Stretch}
use Rattle.std.specs.Prelude.{Result, Ok, Err}
use Rattle.seats.specs.declared.Left.{Left}
use Rattle.seats.specs.declared.SeatRefusal.{SeatRefusal}
use Rattle.seats.specs.Tiling.{end_of}
use Rattle.seats.specs.Seats.{Hall, Seated, Done, Table, Pilot, Length, Pool as NoRun, number, Given, refused, seat_of, leave}
use Rattle.seats.specs.Told.{hall_of, left_answered, roomed}
use Rattle.seats.proofs.Good.{seat_end}
use Rattle.seats.proofs.Ways.{roomed_small, roomed_wide}
use Rattle.seats.proofs.Either.{LeaveWay, left, kept_in, leave_way}
use Rattle.seats.proofs.Whole.{ok_done, err_number}
use Rattle.evenings.proofs.Seated.{held}
use Rattle.evenings.specs.Leaving.{LeavesSeats, pool_rows, cleared_of, left_pool}

rows_are : (c : Pool) {m : ℕ} → m ≡ min 4294967295 (min (length c.collected) (min (length c.collected_values) (min (length c.rows) (min (length c.bases) (min (length c.values) (min (length c.entries) (min (length c.entry_values) (min (length c.plain) (min (length c.sources) (length c.source_floats)))))))))) → m ≡ pool_rows c
unfolding pool_rows
rows_are c e = e

-- ---- it left, or nothing changed

pub record HasLeft (room : ℕ) (h : Hall) (p : ℕ) (l : Left) : Type 0 where
  pub pilot : p < 16
  pub end : l.stretch.start + l.stretch.length ≤ h.rows
  pub answer : (roomed room h (leave h p)).answer ≡ Done
  pub seats : (roomed room h (leave h p)).hall.seats ≡ set h.seats p (replicate 5 (0 ∷ 0 ∷ []))
  pub own : l.stretch ≡ seat_of h.seats p

module _ (room : ℕ) (h : Hall) (p : ℕ) {r : Result Left SeatRefusal} (e : r ≡ left_answered (roomed room h (leave h p)) (seat_of h.seats p)) where
  has_left : {l : Left} → r ≡ Ok l → HasLeft room h p l
  has_left {l} z = by (ltb room 17) refl
    where
      done : ((roomed room h (leave h p)).answer ≡ Done) × (l ≡ record { free = (roomed room h (leave h p)).hall.count; stretch = seat_of h.seats p })
      done = ok_done (roomed room h (leave h p)).answer _ (sym z ∙ e)

      none_left : (a : Seated) → 0 < number a → roomed room h (leave h p) ≡ refused a h → ⊥
      none_left a n f = let y = ap number (sym (ap (λ (g : Given). g.answer) f) ∙ done.0) in omega (arith, n, y)

      wide : 17 ≤ room → LeaveWay h p → HasLeft room h p l
      wide w (kept_in a n d f) = absurd (none_left a n (roomed_wide room h (leave h p) w ∙ f))
      wide w (left g q k f) =
          let is = roomed_wide room h (leave h p) w ∙ f in
          let own : l.stretch ≡ seat_of h.seats p = ap (λ (x : Left). x.stretch) done.1 in
          record {
            pilot = q;
            end = (let y = seat_end g p q k in let x = ap end_of own in omega (arith, y, x));
            answer = done.0;
            seats = ap (λ (x : Given). x.hall.seats) is;
            own = own;
          }

      by : (b : Bool) → ltb room 17 ≡ b → HasLeft room h p l
      by true f = absurd (none_left Table (omega arith) (roomed_small room h (leave h p) (ltb-true room 17 f)))
      by false f = wide (ltb-false room 17 f) (leave_way h p)

  has_stayed : {y : SeatRefusal} → r ≡ Err y → (c : Pool) → length h.seats ≡ 16 → LeavesSeats room h p c c r h.seats
  has_stayed {y} z c sixteen = by (ltb room 17) refl
    where
      unchanged : (a : Seated) → 0 < number a → roomed room h (leave h p) ≡ refused a h → LeavesSeats room h p c c r h.seats
      unchanged a n f =
          record {
            by_left = e;
            by_seats = sym (ap (λ (g : Given). g.hall.seats) f);
            by_pool = same a n ∙ sym (ap (λ (g : Given). left_pool g.answer (seat_of h.seats p) p c) f);
            pilots = sixteen;
          }
        where
          same : (a : Seated) → 0 < number a → c ≡ left_pool a (seat_of h.seats p) p c
          same Done n = absurd (omega (arith, n))
          same Table n = refl
          same (Pilot q) n = refl
          same (Length q) n = refl
          same (NoRun q) n = refl

      more : 0 < number (roomed room h (leave h p)).answer
      more = err_number (roomed room h (leave h p)).answer _ (sym z ∙ e)

      wide : 17 ≤ room → LeaveWay h p → LeavesSeats room h p c c r h.seats
      wide l (kept_in a n d f) = unchanged a n (roomed_wide room h (leave h p) l ∙ f)
      wide l (left g q k f) = absurd (let x = ap (λ (x : Given). number x.answer) (roomed_wide room h (leave h p) l ∙ f) in omega (arith, more, x))

      by : (b : Bool) → ltb room 17 ≡ b → LeavesSeats room h p c c r h.seats
      by true f = unchanged Table (omega arith) (roomed_small room h (leave h p) (ltb-true room 17 f))
      by false f = wide (ltb-false room 17 f) (leave_way h p)

  has_gone : {l : Left} → r ≡ Ok l → (c c' : Pool) → length h.seats ≡ 16 → c' ≡ cleared_of l.stretch p c → LeavesSeats room h p c c' (Ok l) (set h.seats p (replicate 5 (0 ∷ 0 ∷ [])))
  has_gone z c c' sixteen f =
      let d = has_left z in
      record {
        by_left = sym z ∙ e;
        by_seats = sym d.seats;
        by_pool = f ∙ ap (λ (s : Stretch). cleared_of s p c) d.own ∙ sym (ap (λ (a : Seated). left_pool a (seat_of h.seats p) p c) d.answer);
        pilots = sixteen;
      }

-- ---- the same of a call that has counted m rows

-- the rows of s lie in every column
pub record Within (s : Stretch) (c : Pool) : Type 0 where
  pub collected : s.start + s.length ≤ length c.collected
  pub collected_values : s.start + s.length ≤ length c.collected_values
  pub rows : s.start + s.length ≤ length c.rows
  pub bases : s.start + s.length ≤ length c.bases
  pub values : s.start + s.length ≤ length c.values
  pub entries : s.start + s.length ≤ length c.entries
  pub entry_values : s.start + s.length ≤ length c.entry_values
  pub plain : s.start + s.length ≤ length c.plain
  pub sources : s.start + s.length ≤ length c.sources
  pub source_floats : s.start + s.length ≤ length c.source_floats

module _ (c : Pool) {m : ℕ} (counted : m ≡ min 4294967295 (min (length c.collected) (min (length c.collected_values) (min (length c.rows) (min (length c.bases) (min (length c.values) (min (length c.entries) (min (length c.entry_values) (min (length c.plain) (min (length c.sources) (length c.source_floats)))))))))))
    (t : List Stretch) (n : ℕ) (ss : List (List (List ℕ))) (room p : ℕ) {r : Result Left SeatRefusal} (e : r ≡ left_answered (roomed room (hall_of t n ss m) (leave (hall_of t n ss m) p)) (seat_of ss p)) where
  abbrev hall : Hall
  hall = hall_of t n ss (pool_rows c)

  at_rows : r ≡ left_answered (roomed room hall (leave hall p)) (seat_of ss p)
  at_rows = e ∙ ap (λ (k : ℕ). left_answered (roomed room (hall_of t n ss k) (leave (hall_of t n ss k) p)) (seat_of ss p)) (rows_are c counted)

  pub is_pilot : {l : Left} → r ≡ Ok l → p < 16
  is_pilot z = (has_left room hall p at_rows z).pilot

  pub lies_within : {l : Left} → r ≡ Ok l → Within l.stretch c
  lies_within z =
      let d = (has_left room hall p at_rows z).end in
      let h = held c in
      record {
        collected = omega (arith, d, h.collected);
        collected_values = omega (arith, d, h.collected_values);
        rows = omega (arith, d, h.rows);
        bases = omega (arith, d, h.bases);
        values = omega (arith, d, h.values);
        entries = omega (arith, d, h.entries);
        entry_values = omega (arith, d, h.entry_values);
        plain = omega (arith, d, h.plain);
        sources = omega (arith, d, h.sources);
        source_floats = omega (arith, d, h.source_floats);
      }

  pub stayed : {y : SeatRefusal} → r ≡ Err y → length ss ≡ 16 → LeavesSeats room hall p c c r ss
  stayed z sixteen = has_stayed room hall p at_rows z c sixteen

  pub gone : {l : Left} → r ≡ Ok l → {c' : Pool} → length ss ≡ 16 → c' ≡ cleared_of l.stretch p c → LeavesSeats room hall p c c' (Ok l) (set ss p (replicate 5 (0 ∷ 0 ∷ [])))
  gone z {c'} sixteen f = has_gone room hall p at_rows z c c' sixteen f
