-- When POOL is given, said with rows. 02, M-106. Definitions only.
use Rattle.std.specs.Prelude.{ℕ, ◌-◌, ◌≤◌, ◌<◌, ◌≡◌, List, get_or}
use Rattle.promises.specs.Pilots.{RowOf}

-- a list's number
abbrev pub IsList : ℕ → Type 0
IsList l = (1 ≤ l) × (l ≤ 5)

-- pilot p "has a stretch": it is one of sixteen, and has a row in one of the lists
pub record Seated (ss : List (List (List ℕ))) (p : ℕ) : Type 0 where
  pub pilot : p < 16
  pub list : ℕ
  pub is_list : IsList list
  pub row : ℕ
  pub has : RowOf ss p list row

-- "any pilot's stretch leaves the pool or overlaps a lower pilot's": pilot p has a row that the pool has not, or that a lower pilot has
pub data Astray (rooms : List ℕ) (ss : List (List (List ℕ))) (p : ℕ) : Type 0 where
  leaving : (l i : ℕ) → IsList l → RowOf ss p l i → get_or rooms (l - 1) 0 ≤ i → Astray rooms ss p
  sharing : (l i q : ℕ) → IsList l → q < p → RowOf ss p l i → RowOf ss q l i → Astray rooms ss p

-- why POOL is given for p with place x: it has no stretch and is the place, or the place is the first pilot astray
pub data Reason (rooms : List ℕ) (ss : List (List (List ℕ))) (p x : ℕ) : Type 0 where
  no_stretch : (Seated ss p → ⊥) → x ≡ p → Reason rooms ss p x
  first-astray : Seated ss p → x < 16 → Astray rooms ss x → ((q : ℕ) → q < x → Astray rooms ss q → ⊥) → Reason rooms ss p x

-- why it is not given: p has a stretch, and no pilot is astray
pub record NoReason (rooms : List ℕ) (ss : List (List (List ℕ))) (p : ℕ) : Type 0 where
  pub seated : Seated ss p
  pub none : (q : ℕ) → q < 16 → Astray rooms ss q → ⊥
