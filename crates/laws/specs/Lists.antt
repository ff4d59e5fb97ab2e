-- Tests and lists, as the definition of document 01 uses them. Definitions only.
use Rattle.std.specs.Prelude.{ℕ, zero, suc, ◌+◌, Bool, true, false, ◌&&◌, ◌||◌, cond, List, [], ◌∷◌, ◌++◌, ℤ, pos, negsuc, take, drop, eqb}
use Rattle.std.proofs.Math.Option.{Option, none, some}
use Rattle.std.specs.Int.Signed.{lt_z, le_z}

-- whether two signed numbers are the same
abbrev pub eq_z : ℤ → ℤ → Bool
eq_z (pos a) (pos b) = eqb a b
eq_z (pos a) (negsuc b) = false
eq_z (negsuc a) (pos b) = false
eq_z (negsuc a) (negsuc b) = eqb a b

module _ {A : Type 0} where
  -- x before xs, where the test passed
  abbrev pub put : Bool → A → List A → List A
  put true x xs = x ∷ xs
  put false x xs = xs

  -- the elements that pass the test, in order
  abbrev pub keep : (A → Bool) → List A → List A
  keep p [] = []
  keep p (x ∷ xs) = put (p x) x (keep p xs)

  abbrev pub some? : (A → Bool) → List A → Bool
  some? p [] = false
  some? p (x ∷ xs) = p x || some? p xs

  abbrev pub every? : (A → Bool) → List A → Bool
  every? p [] = true
  every? p (x ∷ xs) = p x && every? p xs

  abbrev pub or_else : Bool → A → Option A → Option A
  or_else true x o = some x
  or_else false x o = o

  -- the first that passes the test
  abbrev pub first : (A → Bool) → List A → Option A
  first p [] = none
  first p (x ∷ xs) = or_else (p x) x (first p xs)

  -- n elements from place f on
  abbrev pub span : ℕ → ℕ → List A → List A
  span f n l = take n (drop f l)

-- what f gives for each, one after another
abbrev pub flat : {A B : Type 0} → (A → List B) → List A → List B
flat f [] = []
flat f (x ∷ xs) = f x ++ flat f xs

-- a, a + 1, .. : n numbers
abbrev pub from : ℕ → ℕ → List ℕ
from a zero = []
from a (suc n) = a ∷ from (suc a) n

-- each is less than the next
abbrev pub ascends : List ℤ → Bool
ascends [] = true
ascends (x ∷ []) = true
ascends (x ∷ y ∷ r) = lt_z x y && ascends (y ∷ r)

-- none is greater than the next
abbrev pub not_descending : List ℤ → Bool
not_descending [] = true
not_descending (x ∷ []) = true
not_descending (x ∷ y ∷ r) = le_z x y && not_descending (y ∷ r)

-- a into an ascending list, once
abbrev pub insert : ℤ → List ℤ → List ℤ
insert a [] = a ∷ []
insert a (x ∷ r) = let rest = x ∷ insert a r in cond (lt_z a x) (a ∷ x ∷ r) (cond (eq_z a x) (x ∷ r) rest)

abbrev pub insert_all : List ℤ → List ℤ → List ℤ
insert_all [] l = l
insert_all (a ∷ r) l = insert_all r (insert a l)

-- the sum of a list
abbrev pub total : List ℕ → ℕ
total [] = 0
total (n ∷ r) = n + total r
