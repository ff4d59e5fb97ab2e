-- A mark more: those that were there stay, and one more of a row's skills has its own.
use Prim.Native.Nat.{ℕ, ◌+◌, ◌≤◌, ◌<◌, ◌%◌}
use native.Mathlib.Omega.{arith}
use native.Mathlib.Nat.{eq-or-lt_of_le}
use mathlib.Core.Path.{◌≡◌, refl, sym, ap, subst, ◌∙◌}
use mathlib.Core.Bool.{Bool, true, false}
use mathlib.Core.List.{List, []}
use mathlib.Core.Logic.{◌⊎◌, inl, inr}
use lib.Dec.{eqb}
use lib.ListN.{length, get_or, set, length-set}
use lib.Seq.{get_or-set_same, get_or-set_other}
use borrow.Author.Tests.{eqb-true, eqb-false}
use Rattle.rules.specs.Sheet.{Fit}
use Rattle.hits.specs.Reach.{required_bits, TableOf}
use Rattle.hits.specs.Marks.{Marked, Kept, Marking, AllMarked, Wanted}

-- ---- one row

kept_set : (c : List ℕ) (n : ℕ) → n < length c → Kept c (set c n 1)
kept_set c n few m e = by (eqb m n) refl
  where
    by : (t : Bool) → eqb m n ≡ t → get_or (set c n 1) m 0 ≡ 1
    by true h = ap (λ (i : ℕ). get_or (set c n 1) i 0) (eqb-true m n h) ∙ get_or-set_same c n 1 0 few
    by false h = get_or-set_other c n m 1 0 (eqb-false m n h) ∙ e

pub marking_none : {c row : List ℕ} → length c ≡ 1024 → Marking c c row 0
marking_none l = record { long = l; kept = λ m e. e; marked = λ k h. absurd (omega arith) }

pub marking_more : {c₀ c row : List ℕ} {k n : ℕ} → Marking c₀ c row k → k < 6 → n ≡ get_or row k 0 % 1024 → Marking c₀ (set c n 1) row (k + 1)
marking_more {c₀} {c} {row} {k} {n} M h e =
    record { long = length-set c n 1 ∙ M.long; kept = λ m x. kept_set c n few m (M.kept m x); marked = λ j l. at j (eq-or-lt_of_le {n = j} {m = k} (omega arith)) }
  where
    few : n < length c
    few = omega (arith, M.long, e)

    at : (j : ℕ) → (j ≡ k) ⊎ (j < k) → get_or (set c n 1) (get_or row j 0 % 1024) 0 ≡ 1
    at j (inl q) = ap (λ (i : ℕ). get_or (set c n 1) (get_or row i 0 % 1024) 0) q ∙ ap (λ (i : ℕ). get_or (set c n 1) i 0) (sym e) ∙ get_or-set_same c n 1 0 few
    at j (inr q) = kept_set c n few (get_or row j 0 % 1024) (M.marked j q)

pub marking_all : {c₀ c row : List ℕ} {k : ℕ} → Marking c₀ c row k → 6 ≤ k → Marking c₀ c row 6
marking_all M h = record { long = M.long; kept = M.kept; marked = λ j l. M.marked j (omega arith) }

-- ---- all rows

pub all_none : {c : List ℕ} {rows : List (List ℕ)} → length c ≡ 1024 → AllMarked 0 c rows
all_none l = record { long = l; at = λ i h. absurd (omega arith) }

pub all_more : {c₀ c : List ℕ} {rows : List (List ℕ)} {n : ℕ} → AllMarked n c₀ rows → Marking c₀ c (get_or rows n []) 6 → AllMarked (n + 1) c rows
all_more {c₀} {c} {rows} {n} A M = record { long = M.long; at = λ i h. by i (eq-or-lt_of_le {n = i} {m = n} (omega arith)) }
  where
    by : (i : ℕ) → (i ≡ n) ⊎ (i < n) → Marked 6 c (get_or rows i [])
    by i (inl q) = subst (λ (j : ℕ). Marked 6 c (get_or rows j [])) (sym q) M.marked
    by i (inr q) = λ k l. M.kept (get_or (get_or rows i []) k 0 % 1024) (A.at i q k l)

pub all-marked : {c : List ℕ} {rows : List (List ℕ)} {i n : ℕ} → AllMarked i c rows → n ≤ i → AllMarked n c rows
all-marked A h = record { long = A.long; at = λ j l. A.at j (omega arith) }

-- rows that tell of the objects
pub wanted_told : {f : Fit} {marks : List ℕ} {rows : List (List ℕ)} {n : ℕ} → AllMarked n marks rows → n ≡ length f.objects → TableOf (required_bits f) f rows → Wanted f marks
wanted_told {f} {marks} A e T = record { at = λ i h. subst (Marked 6 marks) (T i h) (A.at i (omega arith)) }
