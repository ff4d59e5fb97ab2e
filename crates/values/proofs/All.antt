-- What holds of every element of a list: over lists appended, kept, mapped and flattened, and by index.
use Prim.Native.Nat.{ℕ, zero, suc, ◌<◌, suc-le-suc, zero-le}
use native.Mathlib.Nat.{not-suc-le-zero, le_of_suc-le-suc}
use mathlib.Core.Bool.{Bool, true, false, cond}
use mathlib.Core.List.{List, [], ◌∷◌, ◌++◌, map}
use lib.IntN.{ℤ}
use lib.ListN.{length, get_or, take, drop}
use lib.Signed.{lt_z}
use Rattle.laws.specs.Lists.{eq_z, put, keep, flat, insert, insert_all}
use Rattle.rules.specs.Dispatch.{Numbered, numbered}
use Rattle.rules.specs.declared.Pass2Effect.{Pass2Effect}
use Rattle.values.specs.SoundRows.{AllAre}

module _ {A : Type 0} (P : A → Type 0) where
  pub all-at : (xs : List A) → AllAre P xs → (i : ℕ) (d : A) → i < length xs → P (get_or xs i d)
  all-at [] a i d h = absurd (not-suc-le-zero h)
  all-at (x ∷ xs) a zero d h = a.0
  all-at (x ∷ xs) a (suc i) d h = all-at xs a.1 i d (le_of_suc-le-suc h)

  pub all-by : (xs : List A) → ((i : ℕ) (d : A) → i < length xs → P (get_or xs i d)) → AllAre P xs
  all-by [] f = tt
  all-by (x ∷ xs) f = (f zero x (suc-le-suc zero-le), all-by xs (λ i d h. f (suc i) d (suc-le-suc h)))

  pub all_each : ((x : A) → P x) → (xs : List A) → AllAre P xs
  all_each f [] = tt
  all_each f (x ∷ xs) = (f x, all_each f xs)

  pub all_append : (xs ys : List A) → AllAre P xs → AllAre P ys → AllAre P (xs ++ ys)
  all_append [] ys a b = b
  all_append (x ∷ xs) ys a b = (a.0, all_append xs ys a.1 b)

  put_all : (t : Bool) (x : A) (xs : List A) → P x → AllAre P xs → AllAre P (put t x xs)
  put_all true x xs p a = (p, a)
  put_all false x xs p a = a

  pub all_keep : (q : A → Bool) (xs : List A) → AllAre P xs → AllAre P (keep q xs)
  all_keep q [] a = tt
  all_keep q (x ∷ xs) a = put_all (q x) x (keep q xs) a.0 (all_keep q xs a.1)

  pub all_take : (n : ℕ) (xs : List A) → AllAre P xs → AllAre P (take n xs)
  all_take zero xs a = tt
  all_take (suc n) [] a = tt
  all_take (suc n) (x ∷ xs) a = (a.0, all_take n xs a.1)

  pub all_drop : (n : ℕ) (xs : List A) → AllAre P xs → AllAre P (drop n xs)
  all_drop zero xs a = a
  all_drop (suc n) [] a = tt
  all_drop (suc n) (x ∷ xs) a = all_drop n xs a.1

pub all_weaker : {A : Type 0} (P Q : A → Type 0) → ((x : A) → P x → Q x) → (xs : List A) → AllAre P xs → AllAre Q xs
all_weaker P Q f [] a = tt
all_weaker P Q f (x ∷ xs) a = (f x a.0, all_weaker P Q f xs a.1)

module _ {A B : Type 0} (P : B → Type 0) where
  pub all_map : (f : A → B) (xs : List A) → AllAre (λ (x : A). P (f x)) xs → AllAre P (map f xs)
  all_map f [] a = tt
  all_map f (x ∷ xs) a = (a.0, all_map f xs a.1)

  pub all-flat : (f : A → List B) (xs : List A) → ((x : A) → AllAre P (f x)) → AllAre P (flat f xs)
  all-flat f [] h = tt
  all-flat f (x ∷ xs) h = all_append P (f x) (flat f xs) (h x) (all-flat f xs h)

-- of numbers put in order
module _ (P : ℤ → Type 0) where
  insert-by : (s t : Bool) (a x : ℤ) (r i : List ℤ) → P a → AllAre P (x ∷ r) → AllAre P i → AllAre P (cond s (a ∷ x ∷ r) (cond t (x ∷ r) (x ∷ i)))
  insert-by true t a x r i p h k = (p, h)
  insert-by false true a x r i p h k = h
  insert-by false false a x r i p h k = (h.0, k)

  all_insert : (a : ℤ) (l : List ℤ) → P a → AllAre P l → AllAre P (insert a l)
  all_insert a [] p h = (p, tt)
  all_insert a (x ∷ r) p h = insert-by (lt_z a x) (eq_z a x) a x r (insert a r) p h (all_insert a r p h.1)

  pub all_inserted : (xs l : List ℤ) → AllAre P xs → AllAre P l → AllAre P (insert_all xs l)
  all_inserted [] l a h = h
  all_inserted (x ∷ xs) l a h = all_inserted xs (insert x l) a.1 (all_insert x l a.0 h)

-- what holds of the effects holds of them numbered
pub all-numbered : (P : Pass2Effect → Type 0) (k : ℕ) (ts : List Pass2Effect) → AllAre P ts → AllAre (λ (n : Numbered). P n.effect) (numbered k ts)
all-numbered P k [] a = tt
all-numbered P k (t ∷ ts) a = (a.0, all-numbered P (suc k) ts a.1)
