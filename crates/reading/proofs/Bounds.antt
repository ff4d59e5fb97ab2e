-- The place where the rows of objects below one end, as the library's search tells it.
use Rattle.std.proofs.Common.{◌≡◌, ℕ, ◌≤◌, ◌<◌, length, get_or, List, [], true, false, sym, ap, ◌∙◌, ltb, ltb-true, ltb-false, arith}
use Rattle.std.specs.List.Sorted.{IsPartitionPoint, IsNonDecreasingBy}
use Rattle.laws.proofs.Maps.{same_default}
use Rattle.rules.specs.Dispatch.{Row}
use Rattle.reading.specs.Held.{no_row, RowsHeld}
use Rattle.reading.specs.Order.{rows_below}
use Rattle.reading.proofs.Sorted.{below_is}
use Rattle.reading.proofs.Walks.{objects_climb}

-- the column's objects do not fall
pub numbers_climb : (c : List (List ℕ)) (rs : List Row) → RowsHeld rs c → IsNonDecreasingBy (λ r. get_or r 0 0) c
numbers_climb c rs H i j d l m =
    let at : (k : ℕ) → k < length c → get_or (get_or c k d) 0 0 ≡ (get_or rs k no_row).object = λ k h. ap (λ (r : List ℕ). get_or r 0 0) (same_default c k d [] h) ∙ H.object k (omega (arith, h, H.long)) in
    omega (arith, at i (omega (arith, l, m)), at j m, objects_climb rs H.ordered i j l (omega (arith, m, H.long)))

pub point_is : (c : List (List ℕ)) (o : ℕ) {n : ℕ} → n ≤ length c
    → IsPartitionPoint (λ r. ltb (get_or r 0 0) o ≡ true) (λ r. ltb (get_or r 0 0) o ≡ false) c n
    → (rs : List Row) → RowsHeld rs c → n ≡ rows_below o rs
point_is c o {n} l p rs H =
    sym (below_is (λ r. r.object) rs no_row (objects_climb rs H.ordered) o n (omega (arith, l, H.long))
    (λ j h. omega (arith, ltb-true (get_or (get_or c j []) 0 0) o (p.0 j [] (omega arith) h), H.object j (omega (arith, h, l, H.long))))
    (λ h. omega (arith, ltb-false (get_or (get_or c n []) 0 0) o (p.1 n [] (omega arith) (omega (arith, h, H.long))), H.object n h)))
