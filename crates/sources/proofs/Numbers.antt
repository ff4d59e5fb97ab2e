-- The numbers of planned rows: each row's, and what they are where all is told or nothing is recorded.
use Prim.Native.Nat.{ℕ, zero, suc, ◌+◌, ◌≤◌, ◌<◌}
use native.Mathlib.Nat.{not-suc-le-zero, le_of_suc-le-suc, add-zero, zero-add, add_assoc}
use native.Mathlib.Omega.{arith}
use mathlib.Core.Path.{◌≡◌, refl, sym, ap, ◌∙◌}
use mathlib.Core.Bool.{true}
use mathlib.Core.List.{List, [], ◌∷◌, map}
use lib.ListN.{length, get_or, take}
use mir.Syntax.{w32}
use mir.Val.{SFits}
use Rattle.laws.specs.Lists.{total}
use Rattle.rules.specs.Bytes.{bits}
use Rattle.rules.specs.Dispatch.{Row}
use Rattle.rules.specs.Columns.{rows_numbers}
use Rattle.rules.specs.declared.Source.{Source}
use Rattle.reading.specs.Held.{no_row, ascending, RowsHeld}
use Rattle.sources.specs.Shown.{first32}
use Rattle.sources.specs.Rows.{held, planned_numbers}

abbrev pub lengths : List Row → List ℕ
lengths rs = map (λ r. length r.entries) rs

-- row r, with its first and count in 3 and in 5
abbrev pub row_numbers : Row → ℕ → ℕ → ℕ → List ℕ
row_numbers r e s n = r.object ∷ bits r.id ∷ e ∷ length r.entries ∷ held s ∷ held n ∷ []

pub planned_long : (rs : List Row) (ns : List ℕ) (e s : ℕ) → length (planned_numbers e s rs ns) ≡ length rs
planned_long [] ns e s = refl
planned_long (r ∷ rs) [] e s = ap suc (planned_long rs [] (e + length r.entries) s)
planned_long (r ∷ rs) (n ∷ ns) e s = ap suc (planned_long rs ns (e + length r.entries) (s + n))

same_row : (r : Row) (n : ℕ) {e e' s s' : ℕ} → e ≡ e' → s ≡ s' → row_numbers r e s n ≡ row_numbers r e' s' n
same_row r n h k = rw (h, k) refl

-- row i: each first is the sum of the counts before it
pub planned_at : (rs : List Row) (ns : List ℕ) (e s i : ℕ) → i < length rs
    → get_or (planned_numbers e s rs ns) i [] ≡ row_numbers (get_or rs i no_row) (e + total (take i (lengths rs))) (s + total (take i ns)) (get_or ns i 0)
planned_at [] ns e s i h = absurd (not-suc-le-zero h)
planned_at (r ∷ rs) [] e s zero h = same_row r 0 (sym (add-zero e)) (sym (add-zero s))
planned_at (r ∷ rs) [] e s (suc i) h =
    planned_at rs [] (e + length r.entries) s i (le_of_suc-le-suc h)
    ∙ same_row (get_or rs i no_row) 0 (add_assoc e (length r.entries) (total (take i (lengths rs)))) (none i)
  where
    none : (j : ℕ) → s + total (take j []) ≡ s + 0
    none zero = refl
    none (suc j) = refl
planned_at (r ∷ rs) (n ∷ ns) e s zero h = same_row r n (sym (add-zero e)) (sym (add-zero s))
planned_at (r ∷ rs) (n ∷ ns) e s (suc i) h =
    planned_at rs ns (e + length r.entries) (s + n) i (le_of_suc-le-suc h)
    ∙ same_row (get_or rs i no_row) (get_or ns i 0) (add_assoc e (length r.entries) (total (take i (lengths rs)))) (add_assoc s n (total (take i ns)))

-- where row i begins in 5, as the source rows are placed
pub planned_first : (rs : List Row) (ns : List ℕ) (i : ℕ) → i < length rs → get_or (get_or (planned_numbers 0 0 rs ns) i []) 4 0 ≡ first32 ns i
planned_first rs ns i h = ap (λ (r : List ℕ). get_or r 4 0) (planned_at rs ns 0 0 i h) ∙ ap held (zero-add (total (take i ns)))

-- its entries
pub planned_entries : (rs : List Row) (ns : List ℕ) (i : ℕ) → i < length rs
    → (get_or (get_or (planned_numbers 0 0 rs ns) i []) 2 0 ≡ total (take i (lengths rs))) × (get_or (get_or (planned_numbers 0 0 rs ns) i []) 3 0 ≡ length (get_or rs i no_row).entries)
planned_entries rs ns i h =
    (ap (λ (r : List ℕ). get_or r 2 0) (planned_at rs ns 0 0 i h) ∙ zero-add (total (take i (lengths rs))), ap (λ (r : List ℕ). get_or r 3 0) (planned_at rs ns 0 0 i h))

inside : (x : ℕ) → x ≤ 4294967295 → held x ≡ x
inside x l = omega (arith, l)

-- where the counts are those of the source rows, and 32 bits hold them, these are the definition's numbers
pub planned_told : (rs : List Row) (qs : List (List Source)) (e s : ℕ) → s + total (map length qs) ≤ 4294967295 → planned_numbers e s rs (map length qs) ≡ rows_numbers e s rs qs
planned_told [] qs e s h = refl
planned_told (r ∷ rs) [] e s h =
    ap (λ (x : ℕ). (r.object ∷ bits r.id ∷ e ∷ length r.entries ∷ x ∷ 0 ∷ []) ∷ planned_numbers (e + length r.entries) s rs []) (inside s (omega (arith, h)))
    ∙ ap (λ (l : List (List ℕ)). (r.object ∷ bits r.id ∷ e ∷ length r.entries ∷ s ∷ 0 ∷ []) ∷ l) (planned_told rs [] (e + length r.entries) s h)
planned_told (r ∷ rs) (q ∷ qs) e s h =
    rw (inside s (omega (arith, h)), inside (length q) (omega (arith, h)), planned_told rs qs (e + length r.entries) (s + length q) (omega (arith, h))) refl

pub planned_whole : (rs : List Row) (qs : List (List Source)) (ns : List ℕ) → map length qs ≡ ns → total ns ≤ 4294967295 → planned_numbers 0 0 rs ns ≡ rows_numbers 0 0 rs qs
planned_whole rs qs ns e h = ap (planned_numbers 0 0 rs) (sym e) ∙ planned_told rs qs 0 0 (rw e (omega (arith, h)))

-- rows with no counts are as dispatched
pub unplanned_numbers : (rs : List Row) (e : ℕ) → planned_numbers e 0 rs [] ≡ rows_numbers e 0 rs []
unplanned_numbers rs e = planned_told rs [] e 0 (omega arith)

pub dispatched_long : (rs : List Row) → length (rows_numbers 0 0 rs []) ≡ length rs
dispatched_long rs = sym (ap length (unplanned_numbers rs 0)) ∙ planned_long rs [] 0 0

-- where nothing is recorded, no row has a source row
pub unplanned : (rs : List Row) (e s : ℕ) → rows_numbers e s rs [] ≡ rows_numbers e s rs (map (λ r. []) rs)
unplanned [] e s = refl
unplanned (r ∷ rs) e s =
    ap (λ (l : List (List ℕ)). (r.object ∷ bits r.id ∷ e ∷ length r.entries ∷ s ∷ 0 ∷ []) ∷ l)
    (unplanned rs (e + length r.entries) s ∙ ap (λ (x : ℕ). rows_numbers (e + length r.entries) x rs (map (λ r. []) rs)) (sym (add-zero s)))

-- they are still found
pub planned_held : (rs : List Row) (ns : List ℕ) (e s : ℕ) → ((i : ℕ) → i < length rs → SFits w32 (get_or rs i no_row).id) → ascending rs ≡ true → RowsHeld rs (planned_numbers e s rs ns)
planned_held rs ns e s f h =
    record {
      long = planned_long rs ns e s;
      object = λ i l. ap (λ (r : List ℕ). get_or r 0 0) (planned_at rs ns e s i l);
      id = λ i l. ap (λ (r : List ℕ). get_or r 1 0) (planned_at rs ns e s i l);
      narrow = f;
      ordered = h;
    }
