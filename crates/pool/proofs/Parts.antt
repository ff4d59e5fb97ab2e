-- A pilot's rows as they are lent: they lie in every column of their list, and come back in their place.
use Prim.Native.Nat.{ℕ, zero, suc, ◌+◌, ◌-◌, ◌≤◌, ◌<◌}
use native.Mathlib.Omega.{arith}
use mathlib.Core.Path.{◌≡◌, refl, ◌∙◌}
use mathlib.Core.Bool.{true, false}
use mathlib.Core.List.{List, ◌++◌}
use mathlib.Core.Logic.{◌⊎◌, inl, inr}
use mathlib.Core.Option.{none}
use lib.Dec.{eqb}
use lib.ListN.{length, take, drop, get_or}
use borrow.Author.Tests.{eqb-true, eqb-false}
use Rattle.laws.specs.Columns.{within}
use Rattle.laws.proofs.Bools.{true_or_false}
use Rattle.laws.proofs.Within.{lent-within, lent_nothing}
use Rattle.rules.specs.Pool.{first_of, length_of, length_at, stretch_of, pool_bad}
use Rattle.rules.proofs.Pools.{lies_inside, is_pilot}
use Rattle.pool.specs.Pooled.{start_of, part_end}

-- from its beginning to its end there are as many rows as the stretch has
pub part_long : (s : List ℕ) → part_end s - start_of s ≡ length_of s
part_long s = by (true_or_false (eqb (length_of s) 0))
  where
    by : (eqb (length_of s) 0 ≡ true) ⊎ (eqb (length_of s) 0 ≡ false) → part_end s - start_of s ≡ length_of s
    by (inl e) = rw e (let z = eqb-true (length_of s) 0 e in omega (arith, z))
    by (inr e) = rw e (omega arith)

-- it does not end before it begins
pub part_ordered : (s : List ℕ) → start_of s ≤ part_end s
part_ordered s = by (true_or_false (eqb (length_of s) 0))
  where
    by : (eqb (length_of s) 0 ≡ true) ⊎ (eqb (length_of s) 0 ≡ false) → start_of s ≤ part_end s
    by (inl e) = rw e (omega arith)
    by (inr e) = rw e (omega arith)

-- what came back, where it stood
pub part_within : {A : Type 0} (s : List ℕ) (ys c : List A) → length ys ≡ length_of s
    → take (start_of s) c ++ (ys ++ drop (part_end s - start_of s) (drop (start_of s) c)) ≡ within (first_of s) (length_of s) ys c
part_within s ys c long = by (true_or_false (eqb (length_of s) 0))
  where
    by : (eqb (length_of s) 0 ≡ true) ⊎ (eqb (length_of s) 0 ≡ false) → take (start_of s) c ++ (ys ++ drop (part_end s - start_of s) (drop (start_of s) c)) ≡ within (first_of s) (length_of s) ys c
    by (inl e) = rw e (rw (eqb-true (length_of s) 0 e) (lent_nothing (first_of s) ys c (long ∙ eqb-true (length_of s) 0 e)))
    by (inr e) = rw e (lent-within (first_of s) (first_of s + length_of s) (length_of s) ys c refl)

-- where POOL is not given it ends in the room of its list
pub part_inside : (rooms : List ℕ) (ss : List (List (List ℕ))) (p : ℕ) → pool_bad rooms ss p ≡ none → (l : ℕ) → 1 ≤ l → l ≤ 5 → part_end (stretch_of ss p l) ≤ get_or rooms (l - 1) 0
part_inside rooms ss p h l a b = by (true_or_false (eqb (length_at ss p l) 0))
  where
    by : (eqb (length_at ss p l) 0 ≡ true) ⊎ (eqb (length_at ss p l) 0 ≡ false) → part_end (stretch_of ss p l) ≤ get_or rooms (l - 1) 0
    by (inl e) = rw e (omega arith)
    by (inr e) = rw e (lies_inside rooms ss p h p (is_pilot rooms ss p h) l a b (let z = eqb-false (length_at ss p l) 0 e in positive (length_at ss p l) z))
      where
        positive : (n : ℕ) → (n ≡ 0 → ⊥) → 0 < n
        positive zero z = absurd (z refl)
        positive (suc n) z = omega arith
