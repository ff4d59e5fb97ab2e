-- Rows by rank: each stands behind all that it needs. Definitions only.
use Rattle.std.specs.Prelude.{ℕ, ◌<◌, ◌≡◌, List, [], length, get_or}
use Rattle.std.proofs.Math.Option.{some}
use Rattle.rules.specs.Value.{World}
use Rattle.needs.specs.Slots.{need_at}

-- a number of row j
abbrev pub num : List (List ℕ) → ℕ → ℕ → ℕ
num c j f = get_or (get_or c j []) f 0

-- number f of row k is x, and no other of the four numbers of any row has changed
pub record Put (c : List (List ℕ)) (k f x : ℕ) (c' : List (List ℕ)) : Type 0 where
  pub here : num c' k f ≡ x
  pub rest : (j g : ℕ) → g < 4 → ((j ≡ k) × (g ≡ f) → ⊥) → num c' j g ≡ num c j g

-- of the first n rows the first two numbers are 0
pub record Unmet (n : ℕ) (c : List (List ℕ)) : Type 0 where
  pub mark : (j : ℕ) → j < n → num c j 0 ≡ 0
  pub at : (j : ℕ) → j < n → num c j 1 ≡ 0

-- number 1 of each row is its rank, which is less for what it needs; number 3 has the rows by rank
pub record Ranked (w : World) (c : List (List ℕ)) : Type 0 where
  pub inside : (j : ℕ) → j < length w.rows → num c j 1 < length w.rows
  pub listed : (j : ℕ) → j < length w.rows → num c (num c j 1) 3 ≡ j
  pub falls : (j s k : ℕ) → j < length w.rows → some k ≡ need_at w j s → num c k 1 < num c j 1
