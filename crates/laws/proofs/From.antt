-- Laws of from, and of tables: what f gives for a, a + 1, ..
use Prim.Native.Nat.{ℕ, zero, suc, ◌+◌, ◌-◌, ◌≤◌, ◌<◌}
use native.Mathlib.Nat.{add-zero, zero-add, suc-add, add-suc, le_of_suc-le-suc}
use native.Mathlib.Numerals.{add-one}
use native.Mathlib.Omega.{arith}
use mathlib.Core.Path.{◌≡◌, refl, sym, ap, ◌∙◌}
use mathlib.Core.List.{List, [], ◌∷◌, ◌++◌, map}
use lib.ListN.{length, take, get_or, length-map}
use lib.Seq.{ext_get_or}
use Rattle.laws.specs.Lists.{flat, from}
use Rattle.laws.proofs.Maps.{map_append, map_snoc, map_at}
use Rattle.laws.proofs.Flat.{flat_snoc}

pub from-length : (a n : ℕ) → length (from a n) ≡ n
from-length a zero = refl
from-length a (suc n) = ap suc (from-length (suc a) n)

pub from_append : (a m n : ℕ) → from a (m + n) ≡ from a m ++ from (a + m) n
from_append a zero n = rw (zero-add n, add-zero a) refl
from_append a (suc m) n = rw (suc-add m n, from_append (suc a) m n, suc-add a m, add-suc a m) refl

pub from_next : (a n : ℕ) → from a (n + 1) ≡ from a n ++ ((a + n) ∷ [])
from_next a n = from_append a n 1

-- what is left of n numbers, from k on: the next, and the rest; at the end none
pub from_step : (k n : ℕ) → k < n → from k (n - k) ≡ k ∷ from (k + 1) (n - (k + 1))
from_step k n h = rw (more, add-one) refl
  where
    more : n - k ≡ suc (n - (k + 1))
    more = omega arith

pub from_end : (k n : ℕ) → n ≤ k → from k (n - k) ≡ []
from_end k n h = rw none_left refl
  where
    none_left : n - k ≡ 0
    none_left = omega arith

pub from_at : (a n k d : ℕ) → k < n → get_or (from a n) k d ≡ a + k
from_at a zero k d h = absurd (omega arith)
from_at a (suc n) zero d h = sym (add-zero a)
from_at a (suc n) (suc k) d h = from_at (suc a) n k d (le_of_suc-le-suc h) ∙ omega arith

pub from-take : (a m n : ℕ) → m ≤ n → take m (from a n) ≡ from a m
from-take a zero n h = refl
from-take a (suc m) zero h = absurd (omega arith)
from-take a (suc m) (suc n) h = ap (λ (l : List ℕ). a ∷ l) (from-take (suc a) m n (le_of_suc-le-suc h))

module _ {A : Type 0} (f : ℕ → A) where
  pub table-length : (a n : ℕ) → length (map f (from a n)) ≡ n
  table-length a n = length-map (from a n) f ∙ from-length a n

  pub table_at : (a n k : ℕ) (d : A) → k < n → get_or (map f (from a n)) k d ≡ f (a + k)
  table_at a n k d h = map_at f (from a n) k 0 d (rw (from-length a n) h) ∙ ap f (from_at a n k 0 h)

  pub table-next : (a n : ℕ) → map f (from a (n + 1)) ≡ map f (from a n) ++ (f (a + n) ∷ [])
  table-next a n = ap (map f) (from_next a n) ∙ map_snoc f (from a n) (a + n)

  pub table_append : (a m n : ℕ) → map f (from a (m + n)) ≡ map f (from a m) ++ map f (from (a + m) n)
  table_append a m n = ap (map f) (from_append a m n) ∙ map_append f (from a m) (from (a + m) n)

  -- functions that agree on the numbers give the same table
  pub table_same : (g : ℕ → A) (a n : ℕ) → ((k : ℕ) → a ≤ k → k < a + n → f k ≡ g k) → map f (from a n) ≡ map g (from a n)
  table_same g a zero e = refl
  table_same g a (suc n) e = rw (e a (omega arith) (omega arith), table_same g (suc a) n (λ k l m. e k (omega arith) (omega arith))) refl

  -- a list is a table where each of its elements is
  pub is-table : (xs : List A) (n : ℕ) (d : A) → length xs ≡ n → ((k : ℕ) → k < n → get_or xs k d ≡ f k) → xs ≡ map f (from 0 n)
  is-table xs n d l e =
      ext_get_or d xs (map f (from 0 n)) (l ∙ sym (table-length 0 n))
      (λ k h. e k (rw l at h) ∙ sym (table_at 0 n k d (rw l at h) ∙ ap f (zero-add k)))

pub flat-from-next : {A : Type 0} (f : ℕ → List A) (a n : ℕ) → flat f (from a (n + 1)) ≡ flat f (from a n) ++ f (a + n)
flat-from-next f a n = ap (flat f) (from_next a n) ∙ flat_snoc f (from a n) (a + n)

-- a list is the table of its elements
pub table_of : {A : Type 0} (xs : List A) (d : A) → map (λ k. get_or xs k d) (from 0 (length xs)) ≡ xs
table_of xs d = sym (is-table (λ k. get_or xs k d) xs (length xs) d refl (λ k h. refl))
