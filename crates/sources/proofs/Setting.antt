-- First and count in list 5, set row by row.
use Prim.Native.Nat.{ℕ, ◌+◌, ◌≤◌, ◌<◌}
use native.Mathlib.Nat.{zero-add}
use native.Mathlib.Omega.{arith}
use mathlib.Core.Path.{◌≡◌, refl, sym, ap, ◌∙◌}
use mathlib.Core.List.{List, [], ◌∷◌, ◌++◌, map}
use lib.Ieee.{Float}
use lib.ListN.{length, get_or, take, drop, set, length-map, length-take, length-set}
use lib.Seq.{set_at, get_or_at, get_or-take, length-take-le, take_all, append_snoc}
use Rattle.laws.specs.Lists.{span, total}
use Rattle.laws.proofs.Maps.{take_next, map_at}
use Rattle.laws.proofs.Flat.{flat-length}
use Rattle.laws.proofs.Sums.{total-next, total-take, flat_part, part_start}
use Rattle.laws.proofs.Scans.{drop-step}
use Rattle.rules.specs.Dispatch.{Row}
use Rattle.rules.specs.declared.Effect.{Effect}
use Rattle.reading.specs.Held.{no_row}
use Rattle.sources.specs.Ranged.{EntriesHeld, Ranged, planned_by, planned_in}
use Rattle.sources.specs.Rows.{held, count_by, counts_by, planned_numbers, entries_of, DispatchedRows}
use Rattle.sources.proofs.Numbers.{lengths, row_numbers, planned_long, planned_at, unplanned_numbers, dispatched_long}

-- row r with first s and count n in 5
abbrev pub with_sources : List ℕ → ℕ → ℕ → List ℕ
with_sources r s n = get_or r 0 0 ∷ get_or r 1 0 ∷ get_or r 2 0 ∷ get_or r 3 0 ∷ s ∷ n ∷ []

-- the rows are in the column
pub inside : (rs : List Row) (n : ℕ) (r₀ c : List (List ℕ)) (v : List Float) → DispatchedRows rs n r₀ c v → n ≤ length r₀
inside rs n r₀ c v D = omega (arith, ap length D.numbers ∙ dispatched_long rs, length-take n r₀, D.count)

module _ (states : List (List ℕ)) (rs : List Row) (n : ℕ) (r₀ c : List (List ℕ)) (v : List Float) where
  abbrev counts : List ℕ
  counts = counts_by states rs

  abbrev planned : List (List ℕ)
  planned = planned_numbers 0 0 rs counts

  -- the first k rows are set, and have first source rows together
  pub record Upto (k : ℕ) (rows : List (List ℕ)) (first : ℕ) : Type 0 where
    pub is : rows ≡ take k planned ++ drop k r₀
    pub long : length rows ≡ length r₀
    pub sum : first ≡ held (total (take k counts))

  pub upto_none : Upto 0 r₀ 0
  upto_none = record { is = refl; long = refl; sum = refl }

  module _ (D : DispatchedRows rs n r₀ c v) where
    module _ {k : ℕ} (h : k < n) where
      in_rows : k < length rs
      in_rows = omega (arith, D.count)

      in_column : k < length r₀
      in_column = omega (arith, inside rs n r₀ c v D)

      abbrev r : Row
      r = get_or rs k no_row

      -- row k as it was dispatched
      dispatched : get_or r₀ k [] ≡ row_numbers r (0 + total (take k (lengths rs))) (0 + total (take k [])) 0
      dispatched = sym (get_or-take n r₀ k [] h) ∙ ap (λ (l : List (List ℕ)). get_or l k []) (D.numbers ∙ sym (unplanned_numbers rs 0)) ∙ planned_at rs [] 0 0 k in_rows

      module _ {rows : List (List ℕ)} {first : ℕ} (U : Upto k rows first) where
        front_long : length (take k planned) ≡ k
        front_long = length-take-le k planned (omega (arith, planned_long rs counts 0 0, in_rows))

        split : rows ≡ take k planned ++ (get_or r₀ k [] ∷ drop (k + 1) r₀)
        split = U.is ∙ ap (λ (l : List (List ℕ)). take k planned ++ l) (drop-step r₀ k [] in_column)

        -- the row is as it was
        pub upto_read : get_or rows k [] ≡ row_numbers r (0 + total (take k (lengths rs))) (0 + total (take k [])) 0
        upto_read = ap (λ (l : List (List ℕ)). get_or l k []) split ∙ get_or_at (take k planned) (get_or r₀ k []) (drop (k + 1) r₀) [] k front_long ∙ dispatched

        module _ {a b : ℕ} (p : a ≡ get_or (get_or rows k []) 2 0) (q : b ≡ get_or (get_or rows k []) 3 0) where
          begins : a ≡ length (entries_of (take k rs))
          begins = p ∙ ap (λ (l : List ℕ). get_or l 2 0) upto_read ∙ zero-add (total (take k (lengths rs))) ∙ sym (part_start (λ (x : Row). x.entries) rs k)

          counts_own : b ≡ length r.entries
          counts_own = q ∙ ap (λ (l : List ℕ). get_or l 3 0) upto_read

          own : span a b (entries_of rs) ≡ r.entries
          own =
              ap (λ (x : ℕ). span x b (entries_of rs)) begins ∙ ap (λ (x : ℕ). span (length (entries_of (take k rs))) x (entries_of rs)) counts_own
              ∙ flat_part (λ (x : Row). x.entries) rs k no_row in_rows

          -- its entries are there
          pub own_inside : a + b ≤ length (entries_of rs)
          own_inside = omega (arith, begins, counts_own, whole)
            where
              whole : length (entries_of (take k rs)) + length r.entries ≤ length (entries_of rs)
              whole = rw (part_start (λ (x : Row). x.entries) rs k, flat-length (λ (x : Row). x.entries) rs) (omega (arith, total-next (lengths rs) k 0 (rw (length-map rs (λ (x : Row). length x.entries)) in_rows), total-take (k + 1) (lengths rs), map_at (λ (x : Row). length x.entries) rs k no_row 0 in_rows))

          pub ranged : Ranged c v a b
          ranged = record { entries = entries_of rs; held = D.entries; inside = own_inside }

          -- one row more
          pub upto_next : {sources count first' : ℕ} {rows' : List (List ℕ)}
              → ((es : List Effect) → EntriesHeld es c v → a + b ≤ length es → sources ≡ planned_in states es a b) → count ≡ held sources → first' ≡ held (first + count)
              → rows' ≡ set rows k (with_sources (get_or rows k []) first count) → Upto (k + 1) rows' first'
          upto_next {sources} {count} {first'} {rows'} given e f g =
              record {
                is =
                    g ∙ ap (λ (x : List ℕ). set rows k x) row ∙ ap (λ (l : List (List ℕ)). set l k (get_or planned k [])) split
                    ∙ set_at (take k planned) (get_or r₀ k []) (drop (k + 1) r₀) (get_or planned k []) k front_long
                    ∙ sym (append_snoc (take k planned) (get_or planned k []) (drop (k + 1) r₀))
                    ∙ ap (λ (l : List (List ℕ)). l ++ drop (k + 1) r₀) (sym (take_next planned k [] (rw (planned_long rs counts 0 0) in_rows)));
                long = ap length g ∙ length-set rows k (with_sources (get_or rows k []) first count) ∙ U.long;
                sum = f ∙ omega (arith, U.sum, count_is, total-next counts k 0 (rw (length-map rs (count_by states)) in_rows));
              }
            where
              sources_are : sources ≡ get_or counts k 0
              sources_are = given (entries_of rs) D.entries own_inside ∙ ap (λ (l : List Effect). total (map (planned_by states) l)) own ∙ sym (map_at (count_by states) rs k no_row 0 in_rows)

              count_is : count ≡ held (get_or counts k 0)
              count_is = e ∙ ap held sources_are

              row : with_sources (get_or rows k []) first count ≡ get_or planned k []
              row = rw (upto_read, U.sum, count_is, planned_at rs counts 0 0 k in_rows, zero-add (total (take k counts))) refl

    pub upto_all : {k : ℕ} {rows : List (List ℕ)} {first : ℕ} → Upto k rows first → k ≤ n → n ≤ k → rows ≡ planned ++ drop n r₀
    upto_all {k} U h l =
        let same : k ≡ n = omega (arith, h, l) in
        U.is ∙ ap (λ (x : ℕ). take x planned ++ drop x r₀) same ∙ ap (λ (x : List (List ℕ)). x ++ drop n r₀) (take_all n planned (omega (arith, planned_long rs counts 0 0, D.count)))
