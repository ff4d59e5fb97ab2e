-- Rows laid into a column that was lent. Definitions only.
use Rattle.std.specs.Prelude.{ℕ, ◌+◌, ◌-◌, ◌≡◌, List, [], ◌∷◌, ◌++◌, map, length, take, drop, replicate}

module _ {R B : Type 0} (enc : R → B) where
  -- the rows from the front of a column, and what stood in it after them
  abbrev pub laid : List R → List B → List B
  laid rs c = map enc rs ++ drop (length rs) c

  -- the rows, and zeros to the length n
  unfoldable pub column : B → List R → ℕ → List B
  column z rs n = map enc rs ++ replicate (n - length rs) z

-- a column c, which was c₀, holds the rows rs
pub record Col {R B : Type 0} (enc : R → B) (rs : List R) (c₀ c : List B) : Type 0 where
  pub is : c ≡ laid enc rs c₀
  pub long : length c ≡ length c₀

-- each is the sum of a and the numbers before it
abbrev pub sums : ℕ → List ℕ → List ℕ
sums a [] = []
sums a (c ∷ r) = a ∷ sums (a + c) r

-- c with xs in place of its n elements from place a on, and nothing else changed
abbrev pub within : {A : Type 0} → ℕ → ℕ → List A → List A → List A
within a n xs c = take a c ++ (xs ++ drop (a + n) c)
