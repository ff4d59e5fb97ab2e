-- How LOOP is answered, and what the search for it keeps. Definitions only.
use Rattle.std.specs.Prelude.{ℕ, ◌+◌, ◌≤◌, ◌<◌, ◌^◌, ◌≡◌, Bool, true, not, List, ◌⊎◌, eqb, length, Some, None}
use Rattle.std.specs.Prelude as code
use Rattle.std.proofs.Math.Option.{some}
use Rattle.laws.specs.Lists.{some?, keep, from}
use Rattle.rules.specs.Value.{World}
use Rattle.needs.specs.Slots.{need_at}
use Rattle.needs.specs.Telling.{NeedTables, KnowsNeeds}
use Rattle.order.specs.Ranks.{num}
use Rattle.loops.specs.Loop.{need_rows, searched, backs}

-- how many rows do not have the mark
abbrev pub unmarked : ℕ → List (List ℕ) → ℕ
unmarked m c = length (keep (λ j. not (eqb (num c j 0) m)) (from 0 (length c)))

-- row j is met from row i
abbrev pub MetFrom : World → ℕ → ℕ → Type 0
MetFrom w i j = some? (eqb j) (searched (need_rows w) (length w.rows) (need_rows w i)) ≡ true

-- what stands in a slot has the mark, and is not the row that is searched for
abbrev pub SlotMet : World → ℕ → List (List ℕ) → ℕ → ℕ → Type 0
SlotMet w row c j s = (k : ℕ) → some k ≡ need_at w j s → (num c k 0 ≡ row + 1) × (k ≡ row → ⊥)

-- row j waits in the queue
pub record Waits (c : List (List ℕ)) (head end j : ℕ) : Type 0 where
  pub place : ℕ
  pub from : head ≤ place
  pub to : place < end
  pub is : num c place 3 ≡ j

-- The search from a row, whose mark is its number plus 1: of each row that has the mark all needs have it, or it waits;
-- but for row at, of which the slots below s are done.
pub record Spreading (t : NeedTables) (row at s head end : ℕ) (c : List (List ℕ)) : Type 0 where
  pub long : length t.rows ≤ length c
  pub few : length t.rows < 2 ^ 32
  pub room : end + unmarked (row + 1) c ≤ length c
  pub ahead : head ≤ end
  pub marks : (j : ℕ) → j < length t.rows → num c j 0 ≤ row + 1
  pub queue : (q : ℕ) → q < end → (num c q 3 < length t.rows) × (num c (num c q 3) 0 ≡ row + 1)
  pub start : num c row 0 ≡ row + 1
  pub own : at < length t.rows → num c at 0 ≡ row + 1
  pub led : (h : KnowsNeeds t) (j : ℕ) → j < length t.rows → num c j 0 ≡ row + 1 → (j ≡ row) ⊎ MetFrom h.world row j
  pub met : (h : KnowsNeeds t) (j : ℕ) → j < length t.rows → num c j 0 ≡ row + 1
      → (j ≡ at) ⊎ (((s : ℕ) → SlotMet h.world row c j s) ⊎ Waits c head end j)
  pub slots : (h : KnowsNeeds t) (i : ℕ) → i < s → SlotMet h.world row c at i

-- a row is in the queue, once: r rows are in it then
pub record Queued (m k end r : ℕ) (c c' : List (List ℕ)) : Type 0 where
  pub room : r + unmarked m c' ≤ length c
  pub grows : end ≤ r
  pub marked : num c' k 0 ≡ m
  pub marks : (j : ℕ) → (j ≡ k → ⊥) → num c' j 0 ≡ num c j 0
  pub before : (q : ℕ) → q < end → num c' q 3 ≡ num c q 3
  pub behind : (q : ℕ) → end ≤ q → q < r → num c' q 3 ≡ k
  pub new : (num c k 0 ≡ m → ⊥) → r ≡ end + 1

-- no row has the mark of this one or of a later one
abbrev pub Earlier : ℕ → ℕ → List (List ℕ) → Type 0
Earlier n row c = (j : ℕ) → j < n → num c j 0 ≤ row

-- all that a row needs is met, or the row that is searched for is among it
abbrev pub Meets : NeedTables → ℕ → ℕ → code.Option ℕ → List (List ℕ) → Type 0
Meets t row head None c = ((h : KnowsNeeds t) → backs h.world row ≡ true) × Earlier (length t.rows) (row + 1) c
Meets t row head (Some end) c = Spreading t row (length t.rows) 0 head end c
