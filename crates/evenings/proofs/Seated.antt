-- "POOL is never given to one admitted", "a leaver's rows are zero", and from admission until leaving nothing of a pilot changes but by itself.
use Prim.Native.Nat.{ℕ, zero, suc, ◌+◌, ◌-◌, ◌≤◌, ◌<◌, min}
use native.Mathlib.Omega.{arith}
use mathlib.Core.Path.{◌≡◌, refl, sym, ap, ◌∙◌, subst}
use mathlib.Core.Bool.{Bool, true, false}
use mathlib.Core.List.{List, [], ◌∷◌}
use mathlib.Core.Logic.{◌⊎◌, inl, inr}
use mathlib.Core.Option.{none}
use lib.Dec.{leb, ltb, eqb}
use lib.Ieee.{Float}
use lib.ListN.{length, get_or, replicate}
use lib.Seq.{get_or-set_same, get_or-set_other}
use borrow.Author.Tests.{ltb-true, ltb-false, leb-true, leb-false, eqb-true, eqb-false}
use Rattle.laws.specs.Columns.{within}
use Rattle.laws.specs.Floats.{zero_f}
use Rattle.laws.specs.Lists.{every?, from, span}
use Rattle.laws.proofs.Bools.{and_left, and_right}
use Rattle.laws.proofs.Every.{every_at}
use Rattle.laws.proofs.From.{from_at, from-length}
use Rattle.laws.proofs.Within.{within-length, within_span, within-apart}
use Rattle.rules.specs.Outcome.{Lent}
use Rattle.rules.specs.Pool.{first_of, length_of, stretch_of, first_at, length_at, pool_bad}
use Rattle.promises.specs.Pilots.{Pool, Told, lengths_of, PilotMeets, RowOf, pilot_result}
use Rattle.promises.specs.PoolRows.{IsList, Astray, leaving, sharing}
use Rattle.promises.specs.Result.{Result}
use Rattle.promises.proofs.Pilots.{pilot_outside, pilot_apart}
use Rattle.promises.proofs.PoolRows.{none_pool}
use Rattle.free_table.specs.declared.Stretch.{Stretch}
use Rattle.free_table.specs.Table.{empty}
use Rattle.seats.specs.declared.Seat.{Seat}
use Rattle.seats.specs.Tiling.{end_of, holds, one, how_many}
use Rattle.seats.specs.Seats.{Hall, seat_of, seats_of, same_five, same_pair, five, Seated as Answer, Done, Table, Pilot, Length, Pool as NoRun, Given, number, admit, leave}
use Rattle.seats.proofs.Tiles.{in_by, each_row}
use Rattle.seats.proofs.Good.{Good, good_by, seats_long, seat-at, rows_of, seat-row, seat_end}
use Rattle.seats.proofs.Reached.{Sound, admit_sound, leave_sound}
use Rattle.seats.proofs.Ways.{leave-done}
use Rattle.seats.proofs.Either.{AdmitWay, admitted, turned_away, admit_way, LeaveWay, left, kept_in, leave_way}
use Rattle.evenings.specs.Leaving.{LeaveMeets, pool_rows, cleared_of, left_pool}
use Rattle.evenings.specs.Evenings.{Evening, over, admits, leaves, calculates, Clear}

-- ---- a pilot's rows

-- a pilot's stretch of each list is its stretch of list 1
list_same : (ss : List (List (List ℕ))) → every? (same_five ss) (from 0 16) ≡ true → (q l : ℕ) → q < 16 → IsList l → (first_at ss q l ≡ first_at ss q 1) × (length_at ss q l ≡ length_at ss q 1)
list_same ss s q l h k = by (eqb l 1) refl
  where
    by : (b : Bool) → eqb l 1 ≡ b → (first_at ss q l ≡ first_at ss q 1) × (length_at ss q l ≡ length_at ss q 1)
    by true e = (ap (first_at ss q) (eqb-true l 1 e), ap (length_at ss q) (eqb-true l 1 e))
    by false e =
        let more : 2 ≤ l = (let z = eqb-false l 1 e in omega (arith, z, k.0)) in
        let all : same_five ss q ≡ true = each_row 16 (same_five ss) s q h in
        let pair : same_pair (stretch_of ss q 1) (stretch_of ss q l) ≡ true =
        subst (λ (m : ℕ). same_pair (stretch_of ss q 1) (stretch_of ss q m) ≡ true) (from_at 2 4 (l - 2) 0 (omega (arith, more, k.1)) ∙ (let z : 2 + (l - 2) ≡ l = omega (arith, more) in z))
        (every_at (λ m. same_pair (stretch_of ss q 1) (stretch_of ss q m)) (from 2 4) (l - 2) 0 all (let z = from-length 2 4 in omega (arith, z, more, k.1))) in (
          sym (eqb-true (first_of (stretch_of ss q 1)) (first_of (stretch_of ss q l)) (and_left (eqb (first_of (stretch_of ss q 1)) (first_of (stretch_of ss q l))) (eqb (length_of (stretch_of ss q 1)) (length_of (stretch_of ss q l))) pair)),
          sym (eqb-true (length_of (stretch_of ss q 1)) (length_of (stretch_of ss q l)) (and_right (eqb (first_of (stretch_of ss q 1)) (first_of (stretch_of ss q l))) (eqb (length_of (stretch_of ss q 1)) (length_of (stretch_of ss q l))) pair)),
        )

-- two of a list hold a row: it is in two
many_two : (i : ℕ) (l : List Stretch) (j k : ℕ) → j < k → k < length l → one (holds i (get_or l j empty)) + one (holds i (get_or l k empty)) ≤ how_many i l
many_two i [] j k h m = absurd (omega (arith, m))
many_two i (s ∷ r) zero zero h m = absurd (omega (arith, h))
many_two i (s ∷ r) zero (suc k) h m = let z = one_at r k (omega (arith, m)) in omega (arith, z)
  where
    one_at : (q : List Stretch) (k : ℕ) → k < length q → one (holds i (get_or q k empty)) ≤ how_many i q
    one_at [] k l = absurd (omega (arith, l))
    one_at (t ∷ q) zero l = omega arith
    one_at (t ∷ q) (suc k) l = let z = one_at q k (omega (arith, l)) in omega (arith, z)
many_two i (s ∷ r) (suc j) zero h m = absurd (omega (arith, h))
many_two i (s ∷ r) (suc j) (suc k) h m = let z = many_two i r j k (omega (arith, h)) (omega (arith, m)) in omega (arith, z)

module _ {h : Hall} (g : Good h) where
  -- a row of one pilot's is no other's
  one_pilot : (q p i : ℕ) → q < p → p < 16 → holds i (seat_of h.seats q) ≡ true → holds i (seat_of h.seats p) ≡ true → ⊥
  one_pilot q p i l k a b =
      let low = (seat-row g p i k b).0 in
      let z = rows_of g i low in
      let y = many_two i (seats_of h) q p l (let x = seats_long h in omega (arith, x, k)) in
      let u : one (holds i (get_or (seats_of h) q empty)) ≡ 1 = ap (λ (s : Stretch). one (holds i s)) (seat-at h.seats q (omega (arith, l, k))) ∙ ap one a in
      let v : one (holds i (get_or (seats_of h) p empty)) ≡ 1 = ap (λ (s : Stretch). one (holds i s)) (seat-at h.seats p k) ∙ ap one b in omega (arith, z, y, u, v)

  row-held : (q l i : ℕ) → q < 16 → IsList l → RowOf h.seats q l i → holds i (seat_of h.seats q) ≡ true
  row-held q l i k m r =
      let s = list_same h.seats g.same q l k m in
      in_by i (seat_of h.seats q) (let z = r.from in let y = s.0 in omega (arith, z, y)) (let z = r.below in let y = s.0 in let x = s.1 in omega (arith, z, y, x))

  -- ---- never-pool

  pub never_pool : (rooms : List ℕ) → ((l : ℕ) → IsList l → h.rows ≤ get_or rooms (l - 1) 0) → (p : ℕ) → p < 16 → 0 < (seat_of h.seats p).length → pool_bad rooms h.seats p ≡ none
  never_pool rooms wide p k i =
      none_pool rooms h.seats p
      (record {
        seated = record { pilot = k; list = 1; is_list = (omega arith, omega arith); row = first_at h.seats p 1; has = record { from = omega arith; below = omega (arith, i) } };
        none = astray;
      })
    where
      astray : (q : ℕ) → q < 16 → Astray rooms h.seats q → ⊥
      astray q m (leaving l j n r o) = (let z = (seat-row g q j m (row-held q l j m n r)).0 in let y = wide l n in omega (arith, z, y, o))
      astray q m (sharing l j o n lower r s) = one_pilot o q j lower m (row-held o l j (omega (arith, lower, m)) n s) (row-held q l j m n r)

-- ---- the pool's rows

low : (a b : ℕ) → min a b ≤ a
low a b = omega arith

high : (a b k : ℕ) → b ≤ k → min a b ≤ k
high a b k h = omega (arith, h)

same : (a : ℕ) → a ≤ a
same a = omega arith

-- the pool's rows are rows of every column
pub record Held (m : ℕ) (c : Pool) : Type 0 where
  pub most : m ≤ 4294967295
  pub collected : m ≤ length c.collected
  pub collected_values : m ≤ length c.collected_values
  pub rows : m ≤ length c.rows
  pub bases : m ≤ length c.bases
  pub values : m ≤ length c.values
  pub entries : m ≤ length c.entries
  pub entry_values : m ≤ length c.entry_values
  pub plain : m ≤ length c.plain
  pub sources : m ≤ length c.sources
  pub source_floats : m ≤ length c.source_floats

pub held : (c : Pool) → Held (pool_rows c) c
unfolding pool_rows
held c =
    record {
      most = low 4294967295 (min (length c.collected) (min (length c.collected_values) (min (length c.rows) (min (length c.bases) (min (length c.values) (min (length c.entries) (min (length c.entry_values) (min (length c.plain) (min (length c.sources) (length c.source_floats))))))))));
      collected = high 4294967295 (min (length c.collected) (min (length c.collected_values) (min (length c.rows) (min (length c.bases) (min (length c.values) (min (length c.entries) (min (length c.entry_values) (min (length c.plain) (min (length c.sources) (length c.source_floats)))))))))) (length c.collected) (low (length c.collected) (min (length c.collected_values) (min (length c.rows) (min (length c.bases) (min (length c.values) (min (length c.entries) (min (length c.entry_values) (min (length c.plain) (min (length c.sources) (length c.source_floats))))))))));
      collected_values = high 4294967295 (min (length c.collected) (min (length c.collected_values) (min (length c.rows) (min (length c.bases) (min (length c.values) (min (length c.entries) (min (length c.entry_values) (min (length c.plain) (min (length c.sources) (length c.source_floats)))))))))) (length c.collected_values) (high (length c.collected) (min (length c.collected_values) (min (length c.rows) (min (length c.bases) (min (length c.values) (min (length c.entries) (min (length c.entry_values) (min (length c.plain) (min (length c.sources) (length c.source_floats))))))))) (length c.collected_values) (low (length c.collected_values) (min (length c.rows) (min (length c.bases) (min (length c.values) (min (length c.entries) (min (length c.entry_values) (min (length c.plain) (min (length c.sources) (length c.source_floats))))))))));
      rows = high 4294967295 (min (length c.collected) (min (length c.collected_values) (min (length c.rows) (min (length c.bases) (min (length c.values) (min (length c.entries) (min (length c.entry_values) (min (length c.plain) (min (length c.sources) (length c.source_floats)))))))))) (length c.rows) (high (length c.collected) (min (length c.collected_values) (min (length c.rows) (min (length c.bases) (min (length c.values) (min (length c.entries) (min (length c.entry_values) (min (length c.plain) (min (length c.sources) (length c.source_floats))))))))) (length c.rows) (high (length c.collected_values) (min (length c.rows) (min (length c.bases) (min (length c.values) (min (length c.entries) (min (length c.entry_values) (min (length c.plain) (min (length c.sources) (length c.source_floats)))))))) (length c.rows) (low (length c.rows) (min (length c.bases) (min (length c.values) (min (length c.entries) (min (length c.entry_values) (min (length c.plain) (min (length c.sources) (length c.source_floats))))))))));
      bases = high 4294967295 (min (length c.collected) (min (length c.collected_values) (min (length c.rows) (min (length c.bases) (min (length c.values) (min (length c.entries) (min (length c.entry_values) (min (length c.plain) (min (length c.sources) (length c.source_floats)))))))))) (length c.bases) (high (length c.collected) (min (length c.collected_values) (min (length c.rows) (min (length c.bases) (min (length c.values) (min (length c.entries) (min (length c.entry_values) (min (length c.plain) (min (length c.sources) (length c.source_floats))))))))) (length c.bases) (high (length c.collected_values) (min (length c.rows) (min (length c.bases) (min (length c.values) (min (length c.entries) (min (length c.entry_values) (min (length c.plain) (min (length c.sources) (length c.source_floats)))))))) (length c.bases) (high (length c.rows) (min (length c.bases) (min (length c.values) (min (length c.entries) (min (length c.entry_values) (min (length c.plain) (min (length c.sources) (length c.source_floats))))))) (length c.bases) (low (length c.bases) (min (length c.values) (min (length c.entries) (min (length c.entry_values) (min (length c.plain) (min (length c.sources) (length c.source_floats))))))))));
      values = high 4294967295 (min (length c.collected) (min (length c.collected_values) (min (length c.rows) (min (length c.bases) (min (length c.values) (min (length c.entries) (min (length c.entry_values) (min (length c.plain) (min (length c.sources) (length c.source_floats)))))))))) (length c.values) (high (length c.collected) (min (length c.collected_values) (min (length c.rows) (min (length c.bases) (min (length c.values) (min (length c.entries) (min (length c.entry_values) (min (length c.plain) (min (length c.sources) (length c.source_floats))))))))) (length c.values) (high (length c.collected_values) (min (length c.rows) (min (length c.bases) (min (length c.values) (min (length c.entries) (min (length c.entry_values) (min (length c.plain) (min (length c.sources) (length c.source_floats)))))))) (length c.values) (high (length c.rows) (min (length c.bases) (min (length c.values) (min (length c.entries) (min (length c.entry_values) (min (length c.plain) (min (length c.sources) (length c.source_floats))))))) (length c.values) (high (length c.bases) (min (length c.values) (min (length c.entries) (min (length c.entry_values) (min (length c.plain) (min (length c.sources) (length c.source_floats)))))) (length c.values) (low (length c.values) (min (length c.entries) (min (length c.entry_values) (min (length c.plain) (min (length c.sources) (length c.source_floats))))))))));
      entries = high 4294967295 (min (length c.collected) (min (length c.collected_values) (min (length c.rows) (min (length c.bases) (min (length c.values) (min (length c.entries) (min (length c.entry_values) (min (length c.plain) (min (length c.sources) (length c.source_floats)))))))))) (length c.entries) (high (length c.collected) (min (length c.collected_values) (min (length c.rows) (min (length c.bases) (min (length c.values) (min (length c.entries) (min (length c.entry_values) (min (length c.plain) (min (length c.sources) (length c.source_floats))))))))) (length c.entries) (high (length c.collected_values) (min (length c.rows) (min (length c.bases) (min (length c.values) (min (length c.entries) (min (length c.entry_values) (min (length c.plain) (min (length c.sources) (length c.source_floats)))))))) (length c.entries) (high (length c.rows) (min (length c.bases) (min (length c.values) (min (length c.entries) (min (length c.entry_values) (min (length c.plain) (min (length c.sources) (length c.source_floats))))))) (length c.entries) (high (length c.bases) (min (length c.values) (min (length c.entries) (min (length c.entry_values) (min (length c.plain) (min (length c.sources) (length c.source_floats)))))) (length c.entries) (high (length c.values) (min (length c.entries) (min (length c.entry_values) (min (length c.plain) (min (length c.sources) (length c.source_floats))))) (length c.entries) (low (length c.entries) (min (length c.entry_values) (min (length c.plain) (min (length c.sources) (length c.source_floats))))))))));
      entry_values = high 4294967295 (min (length c.collected) (min (length c.collected_values) (min (length c.rows) (min (length c.bases) (min (length c.values) (min (length c.entries) (min (length c.entry_values) (min (length c.plain) (min (length c.sources) (length c.source_floats)))))))))) (length c.entry_values) (high (length c.collected) (min (length c.collected_values) (min (length c.rows) (min (length c.bases) (min (length c.values) (min (length c.entries) (min (length c.entry_values) (min (length c.plain) (min (length c.sources) (length c.source_floats))))))))) (length c.entry_values) (high (length c.collected_values) (min (length c.rows) (min (length c.bases) (min (length c.values) (min (length c.entries) (min (length c.entry_values) (min (length c.plain) (min (length c.sources) (length c.source_floats)))))))) (length c.entry_values) (high (length c.rows) (min (length c.bases) (min (length c.values) (min (length c.entries) (min (length c.entry_values) (min (length c.plain) (min (length c.sources) (length c.source_floats))))))) (length c.entry_values) (high (length c.bases) (min (length c.values) (min (length c.entries) (min (length c.entry_values) (min (length c.plain) (min (length c.sources) (length c.source_floats)))))) (length c.entry_values) (high (length c.values) (min (length c.entries) (min (length c.entry_values) (min (length c.plain) (min (length c.sources) (length c.source_floats))))) (length c.entry_values) (high (length c.entries) (min (length c.entry_values) (min (length c.plain) (min (length c.sources) (length c.source_floats)))) (length c.entry_values) (low (length c.entry_values) (min (length c.plain) (min (length c.sources) (length c.source_floats))))))))));
      plain = high 4294967295 (min (length c.collected) (min (length c.collected_values) (min (length c.rows) (min (length c.bases) (min (length c.values) (min (length c.entries) (min (length c.entry_values) (min (length c.plain) (min (length c.sources) (length c.source_floats)))))))))) (length c.plain) (high (length c.collected) (min (length c.collected_values) (min (length c.rows) (min (length c.bases) (min (length c.values) (min (length c.entries) (min (length c.entry_values) (min (length c.plain) (min (length c.sources) (length c.source_floats))))))))) (length c.plain) (high (length c.collected_values) (min (length c.rows) (min (length c.bases) (min (length c.values) (min (length c.entries) (min (length c.entry_values) (min (length c.plain) (min (length c.sources) (length c.source_floats)))))))) (length c.plain) (high (length c.rows) (min (length c.bases) (min (length c.values) (min (length c.entries) (min (length c.entry_values) (min (length c.plain) (min (length c.sources) (length c.source_floats))))))) (length c.plain) (high (length c.bases) (min (length c.values) (min (length c.entries) (min (length c.entry_values) (min (length c.plain) (min (length c.sources) (length c.source_floats)))))) (length c.plain) (high (length c.values) (min (length c.entries) (min (length c.entry_values) (min (length c.plain) (min (length c.sources) (length c.source_floats))))) (length c.plain) (high (length c.entries) (min (length c.entry_values) (min (length c.plain) (min (length c.sources) (length c.source_floats)))) (length c.plain) (high (length c.entry_values) (min (length c.plain) (min (length c.sources) (length c.source_floats))) (length c.plain) (low (length c.plain) (min (length c.sources) (length c.source_floats))))))))));
      sources = high 4294967295 (min (length c.collected) (min (length c.collected_values) (min (length c.rows) (min (length c.bases) (min (length c.values) (min (length c.entries) (min (length c.entry_values) (min (length c.plain) (min (length c.sources) (length c.source_floats)))))))))) (length c.sources) (high (length c.collected) (min (length c.collected_values) (min (length c.rows) (min (length c.bases) (min (length c.values) (min (length c.entries) (min (length c.entry_values) (min (length c.plain) (min (length c.sources) (length c.source_floats))))))))) (length c.sources) (high (length c.collected_values) (min (length c.rows) (min (length c.bases) (min (length c.values) (min (length c.entries) (min (length c.entry_values) (min (length c.plain) (min (length c.sources) (length c.source_floats)))))))) (length c.sources) (high (length c.rows) (min (length c.bases) (min (length c.values) (min (length c.entries) (min (length c.entry_values) (min (length c.plain) (min (length c.sources) (length c.source_floats))))))) (length c.sources) (high (length c.bases) (min (length c.values) (min (length c.entries) (min (length c.entry_values) (min (length c.plain) (min (length c.sources) (length c.source_floats)))))) (length c.sources) (high (length c.values) (min (length c.entries) (min (length c.entry_values) (min (length c.plain) (min (length c.sources) (length c.source_floats))))) (length c.sources) (high (length c.entries) (min (length c.entry_values) (min (length c.plain) (min (length c.sources) (length c.source_floats)))) (length c.sources) (high (length c.entry_values) (min (length c.plain) (min (length c.sources) (length c.source_floats))) (length c.sources) (high (length c.plain) (min (length c.sources) (length c.source_floats)) (length c.sources) (low (length c.sources) (length c.source_floats))))))))));
      source_floats = high 4294967295 (min (length c.collected) (min (length c.collected_values) (min (length c.rows) (min (length c.bases) (min (length c.values) (min (length c.entries) (min (length c.entry_values) (min (length c.plain) (min (length c.sources) (length c.source_floats)))))))))) (length c.source_floats) (high (length c.collected) (min (length c.collected_values) (min (length c.rows) (min (length c.bases) (min (length c.values) (min (length c.entries) (min (length c.entry_values) (min (length c.plain) (min (length c.sources) (length c.source_floats))))))))) (length c.source_floats) (high (length c.collected_values) (min (length c.rows) (min (length c.bases) (min (length c.values) (min (length c.entries) (min (length c.entry_values) (min (length c.plain) (min (length c.sources) (length c.source_floats)))))))) (length c.source_floats) (high (length c.rows) (min (length c.bases) (min (length c.values) (min (length c.entries) (min (length c.entry_values) (min (length c.plain) (min (length c.sources) (length c.source_floats))))))) (length c.source_floats) (high (length c.bases) (min (length c.values) (min (length c.entries) (min (length c.entry_values) (min (length c.plain) (min (length c.sources) (length c.source_floats)))))) (length c.source_floats) (high (length c.values) (min (length c.entries) (min (length c.entry_values) (min (length c.plain) (min (length c.sources) (length c.source_floats))))) (length c.source_floats) (high (length c.entries) (min (length c.entry_values) (min (length c.plain) (min (length c.sources) (length c.source_floats)))) (length c.source_floats) (high (length c.entry_values) (min (length c.plain) (min (length c.sources) (length c.source_floats))) (length c.source_floats) (high (length c.plain) (min (length c.sources) (length c.source_floats)) (length c.source_floats) (high (length c.sources) (length c.source_floats) (length c.source_floats) (same (length c.source_floats)))))))))));
    }

zeros_long : {A : Type 0} (n : ℕ) (z : A) → length (replicate n z) ≡ n
zeros_long zero z = refl
zeros_long (suc n) z = ap suc (zeros_long n z)

-- ---- left-clear

-- a column's rows of s made zero
module _ {A : Type 0} (s : Stretch) (z : A) (c : List A) (h : end_of s ≤ length c) where
  part_zero : span s.start s.length (within s.start s.length (replicate s.length z) c) ≡ replicate s.length z
  part_zero = within_span s.start s.length (replicate s.length z) c (zeros_long s.length z) (λ k. h)

  part_long : length (within s.start s.length (replicate s.length z) c) ≡ length c
  part_long = within-length s.start s.length (replicate s.length z) c (λ k. h) (zeros_long s.length z)

  -- rows that are none of its
  part_kept : (b m : ℕ) → ((i : ℕ) → b ≤ i → i < b + m → (i < s.start) ⊎ (end_of s ≤ i)) → span b m (within s.start s.length (replicate s.length z) c) ≡ span b m c
  part_kept b m f = within-apart s.start s.length (replicate s.length z) c (zeros_long s.length z) (λ k. h) b m f

module _ (h : Hall) (s : Sound h) (c : Pool) (rows : h.rows ≡ pool_rows c) (p : ℕ) (pilot : p < 16) (is_in_lem : 0 < (seat_of h.seats p).length) where
  fits : (m : ℕ) → pool_rows c ≤ m → end_of (seat_of h.seats p) ≤ m
  fits m k = let z = seat_end s.good p pilot is_in_lem in omega (arith, z, k, rows)

  cleared_clear : length c.states ≡ 16 → Clear (seat_of h.seats p) p (cleared_of (seat_of h.seats p) p c)
  cleared_clear n =
      let k = held c in
      record {
        states = get_or-set_same c.states p (replicate 1024 (replicate 2 0)) [] (omega (arith, n, pilot));
        collected = part_zero (seat_of h.seats p) (replicate 14 0) c.collected (fits (length c.collected) k.collected);
        collected_values = part_zero (seat_of h.seats p) zero_f c.collected_values (fits (length c.collected_values) k.collected_values);
        rows = part_zero (seat_of h.seats p) (replicate 6 0) c.rows (fits (length c.rows) k.rows);
        bases = part_zero (seat_of h.seats p) zero_f c.bases (fits (length c.bases) k.bases);
        values = part_zero (seat_of h.seats p) zero_f c.values (fits (length c.values) k.values);
        entries = part_zero (seat_of h.seats p) (replicate 12 0) c.entries (fits (length c.entries) k.entries);
        entry_values = part_zero (seat_of h.seats p) zero_f c.entry_values (fits (length c.entry_values) k.entry_values);
        plain = part_zero (seat_of h.seats p) (replicate 2 0) c.plain (fits (length c.plain) k.plain);
        sources = part_zero (seat_of h.seats p) (replicate 11 0) c.sources (fits (length c.sources) k.sources);
        source_floats = part_zero (seat_of h.seats p) (replicate 2 zero_f) c.source_floats (fits (length c.source_floats) k.source_floats);
      }

  -- "a leaver's rows are zero"
  pub left_clear : length c.states ≡ 16 → {c' : Pool} {r : Seat} {table : List Stretch} {seats : List (List (List ℕ))} → LeaveMeets h p c c' r table seats → Clear (seat_of h.seats p) p c'
  left_clear n {c'} m =
      subst (Clear (seat_of h.seats p) p)
      (sym (m.by_pool ∙ ap (λ (g : Given). left_pool g.answer (seat_of h.seats p) p c) (leave-done h p (good_by s.good) pilot is_in_lem))) (cleared_clear n)

-- ---- seated

lent_same : {a b c d e g h i j m a' b' c' d' e' g' h' i' j' m' : ℕ} → a ≡ a' → b ≡ b' → c ≡ c' → d ≡ d' → e ≡ e' → g ≡ g' → h ≡ h' → i ≡ i' → j ≡ j' → m ≡ m'
    → ◌≡◌ {A = Lent} (record { collected = a; collected_values = b; rows = c; bases = d; values = e; entries = g; entry_values = h; plain = i; sources = j; source_floats = m })
    (record { collected = a'; collected_values = b'; rows = c'; bases = d'; values = e'; entries = g'; entry_values = h'; plain = i'; sources = j'; source_floats = m' })
lent_same p q r s t u v w x y = rw (p, q, r, s, t, u, v, w, x, y) refl

rows_by_lengths : (c c' : Pool) → lengths_of c' ≡ lengths_of c → pool_rows c' ≡ pool_rows c
unfolding pool_rows
rows_by_lengths c c' e = ap (λ (l : Lent). min 4294967295 (min l.collected (min l.collected_values (min l.rows (min l.bases (min l.values (min l.entries (min l.entry_values (min l.plain (min l.sources l.source_floats)))))))))) e

result_same : {s s' : List (List ℕ)} {x0 y0 : List (List ℕ)} {x1 y1 : List (Float)} {x2 y2 : List (List ℕ)} {x3 y3 : List (Float)} {x4 y4 : List (Float)} {x5 y5 : List (List ℕ)} {x6 y6 : List (Float)} {x7 y7 : List (List ℕ)} {x8 y8 : List (List ℕ)} {x9 y9 : List (List Float)}
    → s ≡ s' → x0 ≡ y0 → x1 ≡ y1 → x2 ≡ y2 → x3 ≡ y3 → x4 ≡ y4 → x5 ≡ y5 → x6 ≡ y6 → x7 ≡ y7 → x8 ≡ y8 → x9 ≡ y9 → (t : Told)
    → ◌≡◌ {A = Result} (record { number = t.number; place = t.place; counts = t.counts; states = s; collected = x0; collected_values = x1; rows = x2; bases = x3; values = x4; entries = x5; entry_values = x6; plain = x7; sources = x8; source_floats = x9 }) (record { number = t.number; place = t.place; counts = t.counts; states = s'; collected = y0; collected_values = y1; rows = y2; bases = y3; values = y4; entries = y5; entry_values = y6; plain = y7; sources = y8; source_floats = y9 })
result_same e e0 e1 e2 e3 e4 e5 e6 e7 e8 e9 t = rw (e, e0, e1, e2, e3, e4, e5, e6, e7, e8, e9) refl

-- what a pilot has hangs on its own five stretches
own_result : (ss uu : List (List (List ℕ))) (p : ℕ) (c : Pool) (t : Told) → get_or uu p [] ≡ get_or ss p [] → pilot_result uu p c t ≡ pilot_result ss p c t
own_result ss uu p c t e =
    ap (λ (row : List (List ℕ)). record { number = t.number; place = t.place; counts = t.counts; states = get_or c.states p []; collected = span (first_of (get_or row 0 [])) (length_of (get_or row 0 [])) c.collected; collected_values = span (first_of (get_or row 0 [])) (length_of (get_or row 0 [])) c.collected_values; rows = span (first_of (get_or row 1 [])) (length_of (get_or row 1 [])) c.rows; bases = span (first_of (get_or row 1 [])) (length_of (get_or row 1 [])) c.bases; values = span (first_of (get_or row 1 [])) (length_of (get_or row 1 [])) c.values; entries = span (first_of (get_or row 2 [])) (length_of (get_or row 2 [])) c.entries; entry_values = span (first_of (get_or row 2 [])) (length_of (get_or row 2 [])) c.entry_values; plain = span (first_of (get_or row 3 [])) (length_of (get_or row 3 [])) c.plain; sources = span (first_of (get_or row 4 [])) (length_of (get_or row 4 [])) c.sources; source_floats = span (first_of (get_or row 4 [])) (length_of (get_or row 4 [])) c.source_floats }) e

-- another pilot's leaving
module _ (h : Hall) (s : Sound h) (c : Pool) (rows : h.rows ≡ pool_rows c) (p q : ℕ) (pilot : p < 16) (other : q < 16) (differ : q ≡ p → ⊥) (is_in_lem : 0 < (seat_of h.seats q).length) where
  apart_rows : (l : ℕ) → IsList l → (i : ℕ) → first_at h.seats p l ≤ i → i < first_at h.seats p l + length_at h.seats p l → (i < (seat_of h.seats q).start) ⊎ (end_of (seat_of h.seats q) ≤ i)
  apart_rows l k i a b = by (ltb i (seat_of h.seats q).start) (leb (end_of (seat_of h.seats q)) i) refl refl
    where
      mine : holds i (seat_of h.seats p) ≡ true
      mine = row-held s.good p l i pilot k (record { from = a; below = b })

      by : (t u : Bool) → ltb i (seat_of h.seats q).start ≡ t → leb (end_of (seat_of h.seats q)) i ≡ u → (i < (seat_of h.seats q).start) ⊎ (end_of (seat_of h.seats q) ≤ i)
      by true u e f = inl (ltb-true i (seat_of h.seats q).start e)
      by false true e f = inr (leb-true (end_of (seat_of h.seats q)) i f)
      by false false e f = absurd (which (ltb q p) refl (in_by i (seat_of h.seats q) (ltb-false i (seat_of h.seats q).start e) (leb-false (end_of (seat_of h.seats q)) i f)))
        where
          which : (t : Bool) → ltb q p ≡ t → holds i (seat_of h.seats q) ≡ true → ⊥
          which true g hers = one_pilot s.good q p i (ltb-true q p g) pilot hers mine
          which false g hers = one_pilot s.good p q i (let z = ltb-false q p g in let y = unequal p q (λ w. differ (sym w)) z in y) other mine hers
            where
              unequal : (a b : ℕ) → (a ≡ b → ⊥) → a ≤ b → a < b
              unequal a b n m = (let w = n in omega (arith, w, m))

  fits_other : (m : ℕ) → pool_rows c ≤ m → end_of (seat_of h.seats q) ≤ m
  fits_other m k = fits h s c rows q other is_in_lem m k

  leaver_kept : (t : Told) → pilot_result h.seats p (cleared_of (seat_of h.seats q) q c) t ≡ pilot_result h.seats p c t
  leaver_kept t =
      let k = held c in
      result_same (get_or-set_other c.states q p (replicate 1024 (replicate 2 0)) [] (λ z. differ (sym z)))
      (part_kept (seat_of h.seats q) (replicate 14 0) c.collected (fits_other (length c.collected) k.collected) (first_at h.seats p 1) (length_at h.seats p 1) (apart_rows 1 (omega arith, omega arith)))
      (part_kept (seat_of h.seats q) zero_f c.collected_values (fits_other (length c.collected_values) k.collected_values) (first_at h.seats p 1) (length_at h.seats p 1) (apart_rows 1 (omega arith, omega arith)))
      (part_kept (seat_of h.seats q) (replicate 6 0) c.rows (fits_other (length c.rows) k.rows) (first_at h.seats p 2) (length_at h.seats p 2) (apart_rows 2 (omega arith, omega arith)))
      (part_kept (seat_of h.seats q) zero_f c.bases (fits_other (length c.bases) k.bases) (first_at h.seats p 2) (length_at h.seats p 2) (apart_rows 2 (omega arith, omega arith)))
      (part_kept (seat_of h.seats q) zero_f c.values (fits_other (length c.values) k.values) (first_at h.seats p 2) (length_at h.seats p 2) (apart_rows 2 (omega arith, omega arith)))
      (part_kept (seat_of h.seats q) (replicate 12 0) c.entries (fits_other (length c.entries) k.entries) (first_at h.seats p 3) (length_at h.seats p 3) (apart_rows 3 (omega arith, omega arith)))
      (part_kept (seat_of h.seats q) zero_f c.entry_values (fits_other (length c.entry_values) k.entry_values) (first_at h.seats p 3) (length_at h.seats p 3) (apart_rows 3 (omega arith, omega arith)))
      (part_kept (seat_of h.seats q) (replicate 2 0) c.plain (fits_other (length c.plain) k.plain) (first_at h.seats p 4) (length_at h.seats p 4) (apart_rows 4 (omega arith, omega arith)))
      (part_kept (seat_of h.seats q) (replicate 11 0) c.sources (fits_other (length c.sources) k.sources) (first_at h.seats p 5) (length_at h.seats p 5) (apart_rows 5 (omega arith, omega arith)))
      (part_kept (seat_of h.seats q) (replicate 2 zero_f) c.source_floats (fits_other (length c.source_floats) k.source_floats) (first_at h.seats p 5) (length_at h.seats p 5) (apart_rows 5 (omega arith, omega arith)))
      t

  leaver_long : lengths_of (cleared_of (seat_of h.seats q) q c) ≡ lengths_of c
  leaver_long =
      let k = held c in
      lent_same
      (part_long (seat_of h.seats q) (replicate 14 0) c.collected (fits_other (length c.collected) k.collected))
      (part_long (seat_of h.seats q) zero_f c.collected_values (fits_other (length c.collected_values) k.collected_values))
      (part_long (seat_of h.seats q) (replicate 6 0) c.rows (fits_other (length c.rows) k.rows))
      (part_long (seat_of h.seats q) zero_f c.bases (fits_other (length c.bases) k.bases))
      (part_long (seat_of h.seats q) zero_f c.values (fits_other (length c.values) k.values))
      (part_long (seat_of h.seats q) (replicate 12 0) c.entries (fits_other (length c.entries) k.entries))
      (part_long (seat_of h.seats q) zero_f c.entry_values (fits_other (length c.entry_values) k.entry_values))
      (part_long (seat_of h.seats q) (replicate 2 0) c.plain (fits_other (length c.plain) k.plain))
      (part_long (seat_of h.seats q) (replicate 11 0) c.sources (fits_other (length c.sources) k.sources))
      (part_long (seat_of h.seats q) (replicate 2 zero_f) c.source_floats (fits_other (length c.source_floats) k.source_floats))

-- what a step keeps for the next
pub record Stays (p : ℕ) (h : Hall) (c : Pool) (h' : Hall) (c' : Pool) : Type 0 where
  pub sound : Sound h'
  pub rows : h'.rows ≡ pool_rows c'
  pub own : get_or h'.seats p [] ≡ get_or h.seats p []
  pub result : (t : Told) → pilot_result h'.seats p c' t ≡ pilot_result h.seats p c t

seat_own : (ss uu : List (List (List ℕ))) (p : ℕ) → get_or uu p [] ≡ get_or ss p [] → seat_of uu p ≡ seat_of ss p
seat_own ss uu p e = ap (λ (row : List (List ℕ)). record { start = first_of (get_or row 0 []); length = length_of (get_or row 0 []) }) e

-- a step, and what comes after it
on : (p : ℕ) (h : Hall) (c : Pool) (h' : Hall) (c' : Pool) {h₁ : Hall} {c₁ : Pool} → Stays p h c h₁ c₁
    → (Sound h₁ → h₁.rows ≡ pool_rows c₁ → 0 < (seat_of h₁.seats p).length → Stays p h₁ c₁ h' c') → 0 < (seat_of h.seats p).length → Stays p h c h' c'
on p h c h' c' {h₁} {c₁} a f i =
    let b = f a.sound a.rows (let z = ap (λ (s : Stretch). s.length) (seat_own h.seats h₁.seats p a.own) in omega (arith, z, i)) in
    record { sound = b.sound; rows = b.rows; own = b.own ∙ a.own; result = λ t. b.result t ∙ a.result t }

module _ (p : ℕ) (pilot : p < 16) where
  admit-stays : (h : Hall) (c : Pool) (q w : ℕ) → Sound h → h.rows ≡ pool_rows c → 0 < (seat_of h.seats p).length → Stays p h c (admit h q w).hall c
  admit-stays h c q w s r i = by (admit_way h q w)
    where
      made : {h' : Hall} → (admit h q w).hall ≡ h' → h'.rows ≡ h.rows → get_or h'.seats p [] ≡ get_or h.seats p [] → Stays p h c (admit h q w).hall c
      made {h'} e f g =
          let own_is = ap (λ (x : Hall). get_or x.seats p []) e ∙ g in
          record {
            sound = admit_sound h q w s;
            rows = ap (λ (x : Hall). x.rows) e ∙ f ∙ r;
            own = own_is;
            result = λ t. own_result h.seats (admit h q w).hall.seats p c t own_is;
          }

      by : AdmitWay h q w → Stays p h c (admit h q w).hall c
      by (turned_away a n d e) = made (ap (λ (x : Given). x.hall) e) refl refl
      by (admitted g l k n d f e) =
          made (ap (λ (x : Given). x.hall) e) refl (get_or-set_other h.seats q p (five (record { start = d.start; length = w })) [] (λ z. let y = ap (λ (m : ℕ). (seat_of h.seats m).length) z in omega (arith, y, k, i)))

  leave-stays : (h : Hall) (c c' : Pool) (q : ℕ) (r : Seat) (table : List Stretch) (seats : List (List (List ℕ))) → (q ≡ p → ⊥) → Sound h → h.rows ≡ pool_rows c → LeaveMeets h q c c' r table seats → Stays p h c (leave h q).hall c'
  leave-stays h c c' q r table seats differ s e m = by (leave_way h q)
    where
      by : LeaveWay h q → Stays p h c (leave h q).hall c'
      by (kept_in a n d f) =
          let pool : c' ≡ c = m.by_pool ∙ ap (λ (g : Given). left_pool g.answer (seat_of h.seats q) q c) f ∙ unchanged a n in
          record {
            sound = leave_sound h q s;
            rows = ap (λ (x : Given). x.hall.rows) f ∙ e ∙ ap pool_rows (sym pool);
            own = ap (λ (x : Given). get_or x.hall.seats p []) f;
            result = λ t. own_result h.seats (leave h q).hall.seats p c' t (ap (λ (x : Given). get_or x.hall.seats p []) f) ∙ ap (λ (x : Pool). pilot_result h.seats p x t) pool;
          }
        where
          unchanged : (a : Answer) → 0 < number a → left_pool a (seat_of h.seats q) q c ≡ c
          unchanged Done n = absurd (omega (arith, n))
          unchanged Table n = refl
          unchanged (Pilot x) n = refl
          unchanged (Length x) n = refl
          unchanged (NoRun x) n = refl
      by (left g l k f) =
          let pool : c' ≡ cleared_of (seat_of h.seats q) q c = m.by_pool ∙ ap (λ (x : Given). left_pool x.answer (seat_of h.seats q) q c) f in
          let own_is : get_or (leave h q).hall.seats p [] ≡ get_or h.seats p [] = ap (λ (x : Given). get_or x.hall.seats p []) f ∙ get_or-set_other h.seats q p (five empty) [] (λ z. differ (sym z)) in
          record {
            sound = leave_sound h q s;
            rows = ap (λ (x : Given). x.hall.rows) f ∙ e ∙ sym (ap pool_rows pool ∙ rows_by_lengths c (cleared_of (seat_of h.seats q) q c) (leaver_long h s c e p q pilot l differ k));
            own = own_is;
            result = λ t. own_result h.seats (leave h q).hall.seats p c' t own_is ∙ ap (λ (x : Pool). pilot_result h.seats p x t) pool ∙ leaver_kept h s c e p q pilot l differ k t;
          }

  calculate-stays : (h : Hall) (c c' : Pool) (k f : List ℕ) (q : ℕ) (r : Told) → (q ≡ p → ⊥) → Sound h → h.rows ≡ pool_rows c → PilotMeets k f h.seats q c c' r → Stays p h c h c'
  calculate-stays h c c' k f q r differ s e m =
      record {
        sound = s;
        rows = e ∙ sym (rows_by_lengths c c' (pilot_outside k f h.seats q c c' r m).as_long);
        own = refl;
        result = λ t. pilot_apart k f h.seats q c c' r m p pilot (λ z. differ (sym z)) t;
      }

  -- from admission until leaving: its stretches, its part of every column and its states
  pub seated : {h h' : Hall} {c c' : Pool} → Sound h → h.rows ≡ pool_rows c → 0 < (seat_of h.seats p).length → Evening p h c h' c' → Stays p h c h' c'
  seated {h} {h'} {c} {c'} s e i (over a b) =
      record {
        sound = subst Sound (sym a) s;
        rows = ap (λ (x : Hall). x.rows) a ∙ e ∙ ap pool_rows (sym b);
        own = ap (λ (x : Hall). get_or x.seats p []) a;
        result = λ t. ap (λ (x : Hall). pilot_result x.seats p c' t) a ∙ ap (λ (x : Pool). pilot_result h.seats p x t) b;
      }
  seated {h} {h'} {c} {c'} s e i (admits q w v) = on p h c h' c' (admit-stays h c q w s e i) (λ a b d. seated a b d v) i
  seated {h} {h'} {c} {c'} s e i (leaves q r table seats between differ m v) = on p h c h' c' (leave-stays h c between q r table seats differ s e m) (λ a b d. seated a b d v) i
  seated {h} {h'} {c} {c'} s e i (calculates k f q r between differ m v) = on p h c h' c' (calculate-stays h c between k f q r differ s e m) (λ a b d. seated a b d v) i
