-- Ascending and not descending lists: what holds of neighbours holds at a distance.
use Prim.Native.Nat.{ℕ, zero, suc, ◌≤◌, ◌<◌}
use native.Mathlib.Nat.{not-suc-le-zero, le_of_suc-le-suc, lt_of_le_of_lt}
use mathlib.Core.Path.{◌≡◌, refl}
use mathlib.Core.Bool.{true}
use mathlib.Core.List.{List, [], ◌∷◌, map}
use lib.IntN.{ℤ, pos}
use lib.ListN.{length, get_or, length-map}
use lib.Signed.{lt_z, le_z}
use Rattle.laws.specs.Lists.{every?, ascends, not_descending}
use Rattle.laws.proofs.Bools.{and_left, and_right, and_both}
use Rattle.laws.proofs.Every.{every_weaker, every_at}
use Rattle.laws.proofs.Maps.{map_at}
use Rattle.laws.proofs.Order.{lt_z_trans, lt_z_le_z, le_z_trans, le_z_refl}

-- the first is less than all after it
pub ascends_head : (x : ℤ) (r : List ℤ) → ascends (x ∷ r) ≡ true → every? (lt_z x) r ≡ true
ascends_head x [] h = refl
ascends_head x (y ∷ r) h =
    and_both (and_left (lt_z x y) (ascends (y ∷ r)) h)
    (every_weaker (lt_z y) (lt_z x) (λ z. lt_z_trans x y z (and_left (lt_z x y) (ascends (y ∷ r)) h)) r (ascends_head y r (and_right (lt_z x y) (ascends (y ∷ r)) h)))

pub ascends_tail : (x : ℤ) (r : List ℤ) → ascends (x ∷ r) ≡ true → ascends r ≡ true
ascends_tail x [] h = refl
ascends_tail x (y ∷ r) h = and_right (lt_z x y) (ascends (y ∷ r)) h

pub ascends_cons : (x : ℤ) (r : List ℤ) → every? (lt_z x) r ≡ true → ascends r ≡ true → ascends (x ∷ r) ≡ true
ascends_cons x [] h k = refl
ascends_cons x (y ∷ r) h k = and_both (and_left (lt_z x y) (every? (lt_z x) r) h) k

pub not_descending_head : (x : ℤ) (r : List ℤ) → not_descending (x ∷ r) ≡ true → every? (le_z x) r ≡ true
not_descending_head x [] h = refl
not_descending_head x (y ∷ r) h =
    and_both (and_left (le_z x y) (not_descending (y ∷ r)) h)
    (every_weaker (le_z y) (le_z x) (λ z. le_z_trans x y z (and_left (le_z x y) (not_descending (y ∷ r)) h)) r (not_descending_head y r (and_right (le_z x y) (not_descending (y ∷ r)) h)))

pub not_descending_tail : (x : ℤ) (r : List ℤ) → not_descending (x ∷ r) ≡ true → not_descending r ≡ true
not_descending_tail x [] h = refl
not_descending_tail x (y ∷ r) h = and_right (le_z x y) (not_descending (y ∷ r)) h

-- an ascending list does not descend
pub ascends-not_descending : (l : List ℤ) → ascends l ≡ true → not_descending l ≡ true
ascends-not_descending [] h = refl
ascends-not_descending (x ∷ []) h = refl
ascends-not_descending (x ∷ y ∷ r) h =
    and_both (lt_z_le_z x y (and_left (lt_z x y) (ascends (y ∷ r)) h)) (ascends-not_descending (y ∷ r) (and_right (lt_z x y) (ascends (y ∷ r)) h))

pub not_descending_far : (l : List ℤ) (d : ℤ) → not_descending l ≡ true → (i j : ℕ) → i ≤ j → j < length l → le_z (get_or l i d) (get_or l j d) ≡ true
not_descending_far [] d h i j k m = absurd (not-suc-le-zero m)
not_descending_far (x ∷ r) d h zero zero k m = le_z_refl x
not_descending_far (x ∷ r) d h (suc i) zero k m = absurd (not-suc-le-zero k)
not_descending_far (x ∷ r) d h zero (suc j) k m = every_at (le_z x) r j d (not_descending_head x r h) (le_of_suc-le-suc m)
not_descending_far (x ∷ r) d h (suc i) (suc j) k m = not_descending_far r d (not_descending_tail x r h) i j (le_of_suc-le-suc k) (le_of_suc-le-suc m)

-- the same over the keys of records
module _ {A : Type 0} (key : A → ℤ) (xs : List A) (d : A) (i j : ℕ) where
  keyed : (k : ℕ) → k < length xs → get_or (map key xs) k (pos 0) ≡ key (get_or xs k d)
  keyed k h = map_at key xs k d (pos 0) h

  pub keys_not_descend : not_descending (map key xs) ≡ true → i ≤ j → j < length xs → le_z (key (get_or xs i d)) (key (get_or xs j d)) ≡ true
  keys_not_descend h k m =
      rw (← keyed i (lt_of_le_of_lt k m), ← keyed j m) (not_descending_far (map key xs) (pos 0) h i j k (rw (length-map xs key) m))
