-- What the look-ups work over, and their answers in the definition's words.
use Rattle.std.specs.Prelude.{ℕ, ◌+◌, ◌*◌, ◌-◌, ◌≤◌, ◌≡◌, true, List, map, ℤ, length}
use Rattle.laws.specs.Lists.{eq_z, keep, from, span, not_descending}
use Rattle.laws.proofs.Search.{Between, less_than}
use Rattle.rules.specs.Bytes.{i32_at}

-- the key with which record k begins, where records of w bytes stand from `at` on
unfoldable pub key_at : List ℕ → ℕ → ℕ → ℕ → ℤ
key_at b at w k = i32_at b (at + w * k)

-- n such records lie inside the bytes, and their keys do not descend
pub record Keyed (b : List ℕ) (at w n : ℕ) : Type 0 where
  pub wide : 4 ≤ w
  pub inside : at + w * n ≤ length b
  pub ordered : not_descending (map (key_at b at w) (from 0 n)) ≡ true

-- the first place whose key is not less than a lies between lo and hi
abbrev pub Bounds : List ℕ → ℕ → ℕ → ℕ → ℤ → ℕ → ℕ → Type 0
Bounds b at w n a lo hi = Between (less_than (key_at b at w) a) (from 0 n) 0 lo hi

-- lo is the first place whose key is not less than a
abbrev pub Lower : List ℕ → ℕ → ℕ → ℕ → ℤ → ℕ → Type 0
Lower b at w n a lo = Bounds b at w n a lo lo

-- the records whose key is a stand from lo to hi
pub record RunTo (b : List ℕ) (at w n : ℕ) (a : ℤ) (lo hi : ℕ) : Type 0 where
  pub within : lo ≤ hi
  pub inside : hi ≤ n
  pub is : keep (λ k. eq_z (key_at b at w k) a) (from 0 n) ≡ span lo (hi - lo) (from 0 n)

-- a part of a list
pub record Stretch {A : Type 0} (part all : List A) (first count : ℕ) : Type 0 where
  pub is : part ≡ span first count all
  pub within : first + count ≤ length all
