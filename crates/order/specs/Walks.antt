-- What the walk that puts rows in order keeps. Definitions only.
use Rattle.std.specs.Prelude.{ℕ, ◌≤◌, ◌<◌, ◌^◌, ◌≡◌, List, length, Option, Some, None}
use Rattle.std.proofs.Math.Option.{some}
use Rattle.rules.specs.Value.{World}
use Rattle.needs.specs.Slots.{need_at}
use Rattle.needs.specs.Telling.{NeedTables, KnowsNeeds}
use Rattle.order.specs.Ranks.{num}
use Rattle.order.specs.declared.Walk.{Walk}

-- row j is placed: it stands behind all that it needs
pub record Behind (w : World) (placed : ℕ) (c : List (List ℕ)) (j : ℕ) : Type 0 where
  pub rank : num c j 1 < placed
  pub listed : num c (num c j 1) 3 ≡ j
  pub needs : (s k : ℕ) → some k ≡ need_at w j s → (num c k 0 ≡ 2) × (num c k 1 < num c j 1)

-- of n rows those below next are placed, and of one that is not placed the slots looked at hold nothing but placed rows
pub record Placing (w : World) (n next placed : ℕ) (c : List (List ℕ)) : Type 0 where
  pub low : (j : ℕ) → j < next → num c j 0 ≡ 2
  pub behind : (j : ℕ) → j < n → num c j 0 ≡ 2 → Behind w placed c j
  pub looked : (j s k : ℕ) → j < n → (num c j 0 ≡ 2 → ⊥) → s < num c j 1 → some k ≡ need_at w j s → num c k 0 ≡ 2

-- the same of whatever world the columns hold, and the path is of rows
pub record Walking (t : NeedTables) (walk : Walk) (c : List (List ℕ)) : Type 0 where
  pub long : length t.rows ≤ length c
  pub few : length t.rows < 2 ^ 32
  pub next : walk.next ≤ length t.rows
  pub placed : walk.placed ≤ length t.rows
  pub depth : walk.depth ≤ length c
  pub path : (d : ℕ) → d < walk.depth → num c d 2 < length t.rows
  pub placing : (h : KnowsNeeds t) → Placing h.world (length t.rows) walk.next walk.placed c

-- a row that is not placed
pub record Pushable (rows c : List (List ℕ)) (row : ℕ) : Type 0 where
  pub within : row < length rows
  pub unplaced : num c row 0 ≡ 2 → ⊥

-- the slot to be looked at holds nothing but a placed row
abbrev pub Looking : NeedTables → List (List ℕ) → ℕ → Type 0
Looking t c row = (h : KnowsNeeds t) (k : ℕ) → some k ≡ need_at h.world row (num c row 1) → num c k 0 ≡ 2

-- all that a row needs is placed
abbrev pub AllPlaced : NeedTables → List (List ℕ) → ℕ → Type 0
AllPlaced t c row = (h : KnowsNeeds t) (s k : ℕ) → some k ≡ need_at h.world row s → num c k 0 ≡ 2

abbrev pub TurnsTo : NeedTables → Option Walk → List (List ℕ) → Type 0
TurnsTo t (Some walk) c = Walking t walk c
TurnsTo t None c = Unit {0}
