-- Columns with zeros behind: what stands at a place does not depend on how long the column is.
use Prim.Native.Nat.{ℕ, zero, suc, ◌+◌, ◌-◌, ◌<◌}
use native.Mathlib.Nat.{not-suc-le-zero, le_of_suc-le-suc}
use native.Mathlib.Omega.{arith}
use mathlib.Core.Path.{◌≡◌, refl, sym, ap, ◌∙◌}
use mathlib.Core.Bool.{Bool, true}
use mathlib.Core.List.{List, [], ◌∷◌, ◌++◌, map}
use lib.ListN.{length, get_or, replicate}
use Rattle.laws.specs.Lists.{every?}
use Rattle.laws.specs.Columns.{column}
use Rattle.laws.proofs.Bools.{and_both}
use Rattle.laws.proofs.Every.{every_map}
use Rattle.rules.specs.Answer.{Res}
use Rattle.rules.specs.Bytes.{bits}
use Rattle.rules.specs.Columns.{rows_numbers}
use Rattle.rules.specs.Dispatch.{Row}
use Rattle.rules.specs.Outcome.{Done}
use Rattle.rules.specs.declared.Source.{Source}
use Rattle.promises.specs.Given.{cell, Same}
use Rattle.promises.specs.NoMemory.{no_row}
use Rattle.promises.proofs.Everywhere.{every_both}

-- ---- zeros

zeros_at : {A : Type 0} (k i : ℕ) (z : A) → get_or (replicate k z) i z ≡ z
zeros_at zero i z = refl
zeros_at (suc k) zero z = refl
zeros_at (suc k) (suc i) z = zeros_at k i z

zeros_behind : {A : Type 0} (xs : List A) (k i : ℕ) (z : A) → get_or (xs ++ replicate k z) i z ≡ get_or xs i z
zeros_behind [] k i z = zeros_at k i z
zeros_behind (x ∷ xs) k zero z = refl
zeros_behind (x ∷ xs) k (suc i) z = zeros_behind xs k i z

no_cells : (k n i j : ℕ) → cell (replicate k (replicate n 0)) i j ≡ 0
no_cells zero n i j = refl
no_cells (suc k) n zero j = zeros_at n j 0
no_cells (suc k) n (suc i) j = no_cells k n i j

cells_behind : (xs : List (List ℕ)) (k n i j : ℕ) → cell (xs ++ replicate k (replicate n 0)) i j ≡ cell xs i j
cells_behind [] k n i j = no_cells k n i j
cells_behind (x ∷ xs) k n zero j = refl
cells_behind (x ∷ xs) k n (suc i) j = cells_behind xs k n i j

every_zero : {A : Type 0} (p : A → Bool) (z : A) → p z ≡ true → (k : ℕ) → every? p (replicate k z) ≡ true
every_zero p z h zero = refl
every_zero p z h (suc k) = and_both h (every_zero p z h k)

module _ {R B : Type 0} (enc : R → B) (z : B) (rs : List R) where
  pub column_place : (n i : ℕ) → get_or (column enc z rs n) i z ≡ get_or (map enc rs) i z
  unfolding column
  column_place n i = zeros_behind (map enc rs) (n - length rs) i z

  pub column_every : (p : B → Bool) (n : ℕ) → every? (λ x. p (enc x)) rs ≡ true → p z ≡ true → every? p (column enc z rs n) ≡ true
  unfolding column
  column_every p n h k = every_both p (map enc rs) (replicate (n - length rs) z) (every_map p enc rs ∙ h) (every_zero p z k (n - length rs))

pub column_cell : {R : Type 0} (enc : R → List ℕ) (w : ℕ) (rs : List R) (n i j : ℕ) → cell (column enc (replicate w 0) rs n) i j ≡ cell (map enc rs) i j
unfolding column
column_cell enc w rs n i j = cells_behind (map enc rs) (n - length rs) w i j

-- two columns of one list
pub columns_same : {A : Type 0} (z : A) (columnOf : Res Done → ℕ → List A) (list : Res Done → List A) → ((o : Res Done) (n i : ℕ) → get_or (columnOf o n) i z ≡ get_or (list o) i z)
    → {c d : List A} (o o' : Res Done) (n n' : ℕ) → c ≡ columnOf o n → d ≡ columnOf o' n' → list o ≡ list o' → Same z c d
columns_same z columnOf list at o o' n n' p q e i =
    ap (λ c. get_or c i z) p ∙ at o n i ∙ ap (λ c. get_or c i z) e ∙ sym (at o' n' i) ∙ sym (ap (λ c. get_or c i z) q)

-- ---- list 2

pub numbers_length : (e s : ℕ) (rs : List Row) (qs : List (List Source)) → length (rows_numbers e s rs qs) ≡ length rs
numbers_length e s [] qs = refl
numbers_length e s (r ∷ rs) [] = ap suc (numbers_length (e + length r.entries) s rs [])
numbers_length e s (r ∷ rs) (q ∷ qs) = ap suc (numbers_length (e + length r.entries) (s + length q) rs qs)

pub row_cells : (e s : ℕ) (rs : List Row) (qs : List (List Source)) (i : ℕ) → i < length rs
    → (cell (rows_numbers e s rs qs) i 0 ≡ (get_or rs i no_row).object) × (cell (rows_numbers e s rs qs) i 1 ≡ bits (get_or rs i no_row).id)
row_cells e s [] qs i h = absurd (not-suc-le-zero h)
row_cells e s (r ∷ rs) [] zero h = (refl, refl)
row_cells e s (r ∷ rs) (q ∷ qs) zero h = (refl, refl)
row_cells e s (r ∷ rs) [] (suc i) h = row_cells (e + length r.entries) s rs [] i (le_of_suc-le-suc h)
row_cells e s (r ∷ rs) (q ∷ qs) (suc i) h = row_cells (e + length r.entries) (s + length q) rs qs i (le_of_suc-le-suc h)

four : (o x e c s n t m : ℕ) (j : ℕ) → j < 4 → get_or (o ∷ x ∷ e ∷ c ∷ s ∷ n ∷ []) j 0 ≡ get_or (o ∷ x ∷ e ∷ c ∷ t ∷ m ∷ []) j 0
four o x e c s n t m zero h = refl
four o x e c s n t m (suc zero) h = refl
four o x e c s n t m (suc (suc zero)) h = refl
four o x e c s n t m (suc (suc (suc zero))) h = refl
four o x e c s n t m (suc (suc (suc (suc j)))) h = absurd (omega (arith, h))

-- all of a row but its source rows
pub rows_four : (e s t : ℕ) (rs : List Row) (qs us : List (List Source)) (i j : ℕ) → j < 4 → cell (rows_numbers e s rs qs) i j ≡ cell (rows_numbers e t rs us) i j
rows_four e s t [] qs us i j h = refl
rows_four e s t (r ∷ rs) [] [] zero j h = four r.object (bits r.id) e (length r.entries) s 0 t 0 j h
rows_four e s t (r ∷ rs) [] (u ∷ us) zero j h = four r.object (bits r.id) e (length r.entries) s 0 t (length u) j h
rows_four e s t (r ∷ rs) (q ∷ qs) [] zero j h = four r.object (bits r.id) e (length r.entries) s (length q) t 0 j h
rows_four e s t (r ∷ rs) (q ∷ qs) (u ∷ us) zero j h = four r.object (bits r.id) e (length r.entries) s (length q) t (length u) j h
rows_four e s t (r ∷ rs) [] [] (suc i) j h = rows_four (e + length r.entries) s t rs [] [] i j h
rows_four e s t (r ∷ rs) [] (u ∷ us) (suc i) j h = rows_four (e + length r.entries) s (t + length u) rs [] us i j h
rows_four e s t (r ∷ rs) (q ∷ qs) [] (suc i) j h = rows_four (e + length r.entries) (s + length q) t rs qs [] i j h
rows_four e s t (r ∷ rs) (q ∷ qs) (u ∷ us) (suc i) j h = rows_four (e + length r.entries) (s + length q) (t + length u) rs qs us i j h
