-- Lists 1 to 4 of a run: the steps of the definition's `run` before any value, and what the columns hold after them. Definitions only.
use Rattle.std.specs.Prelude.{ℕ, ◌≤◌, ◌<◌, ◌^◌, ◌≡◌, cond, List, leb, Float, length, Result, Ok, Err}
use Rattle.std.proofs.Math.Option.{none, some}
use Rattle.columns.specs.Lending.{LentColumn}
use Rattle.laws.specs.Columns.{Col}
use Rattle.rules.specs.Answer.{Res, ok, refused, ◌>>=◌}
use Rattle.rules.specs.Sheet.{Book, Fit}
use Rattle.rules.specs.Collect.{moves, plain_of}
use Rattle.rules.specs.Dispatch.{base_keys, hit_keys, full_at}
use Rattle.rules.specs.Columns.{collected_numbers, origin_value, plain_numbers}
use Rattle.rules.specs.Outcome as outcome
use Rattle.rules.specs.Outcome.{full, collected_in, rows_in, world_of, starts_of, blank, valued}
use Rattle.rows.specs.Laying.{entries_of}
use Rattle.rows.specs.Parts.{ListsLaid}
use Rattle.rules.specs.declared.Refusal.{Refusal}
use Rattle.dispatch.specs.declared.DispatchedCounts.{DispatchedCounts}
use Rattle.run.specs.declared.lists.ListRooms.{ListRooms}
use Rattle.run.specs.declared.lists.ListCounts.{ListCounts}

-- `run`, up to its values: base attributes, collection, dispatch
unfoldable pub lists_in : Book → Fit → outcome.Rooms → Res Unit
lists_in k f q = do
  _ ← full (cond (leb (length (base_keys f)) q.rows) none (some 2))
  _ ← outcome.collected q 0 0 (moves k f)
  full (full_at q.rows q.entries (base_keys f) (length (base_keys f)) 0 (hit_keys k f (collected_in k f)))

-- what `run` does after them
abbrev pub valued_in : Book → Fit → outcome.Rooms → Res outcome.Done
valued_in k f q = do
  let w = world_of k f q.sources
  m ← valued w f.depth (starts_of f w.rows) (blank w.rows)
  ok (record { states = w.states; collected = collected_in k f; plain = plain_of (moves k f); rows = w.rows; values = m.values; sources = m.sources })

-- the definition's rooms of lists 1 to 4 are these
pub record RoomsOf (q : outcome.Rooms) (s : ListRooms) : Type 0 where
  pub collected : q.collected ≡ s.collected
  pub rows : q.rows ≡ s.rows
  pub entries : q.entries ≡ s.entries
  pub plain : q.plain ≡ s.plain

-- no room is longer than its columns, or past 32 bits where that counts
pub record RoomsLent (s : ListRooms) (c : List (List ℕ)) (v : List Float) (r : List (List ℕ)) (b : List Float) (e : List (List ℕ)) (w : List Float) (p : List (List ℕ)) : Type 0 where
  pub collected : s.collected ≤ length c
  pub collected_values : s.collected ≤ length v
  pub collected_few : s.collected < 2 ^ 32
  pub rows : s.rows ≤ length r
  pub bases : s.rows ≤ length b
  pub entries : s.entries ≤ length e
  pub entry_values : s.entries ≤ length w
  pub entries_few : s.entries < 2 ^ 32
  pub plain : s.plain ≤ length p

pub record CountsOf (n : ListCounts) (k : Book) (f : Fit) : Type 0 where
  pub collected : n.collected ≡ length (collected_in k f)
  pub rows : n.rows ≡ length (rows_in k f)
  pub entries : n.entries ≡ length (entries_of (rows_in k f))
  pub plain : n.plain ≡ length (plain_of (moves k f))

-- the columns hold the definition's lists
pub record ListsHeld (k : Book) (f : Fit) (c₀ c : List (List ℕ)) (v₀ v : List Float) (r₀ r : List (List ℕ)) (b₀ b : List Float) (e₀ e : List (List ℕ)) (w₀ w : List Float) (p₀ p : List (List ℕ)) : Type 0 where
  pub collected : Col collected_numbers (collected_in k f) c₀ c
  pub collected_values : Col (λ t. origin_value t.origin) (collected_in k f) v₀ v
  pub lists : ListsLaid (rows_in k f) r₀ r b₀ b e₀ e w₀ w
  pub plain : Col plain_numbers (plain_of (moves k f)) p₀ p

-- the answer, by dispatch's and the counts of lists 1 and 4
abbrev pub listed_of : Result DispatchedCounts Refusal → ℕ → ℕ → Result ListCounts Refusal
listed_of (Ok d) n p = Ok (record { collected = n; rows = d.rows; entries = d.entries; plain = p })
listed_of (Err x) n p = Err x

-- the rows have room
abbrev pub RowsWithin : ℕ → Result ListCounts Refusal → Type 0
RowsWithin room (Ok n) = n.rows ≤ room
RowsWithin room (Err x) = Unit {0}

-- what an answer says of the steps and of the columns
abbrev pub ListedAs : Res Unit → Result ListCounts Refusal → Book → Fit → List (List ℕ) → List (List ℕ) → List Float → List Float → List (List ℕ) → List (List ℕ) → List Float → List Float → List (List ℕ) → List (List ℕ) → List Float → List Float → List (List ℕ) → List (List ℕ) → Type 0
ListedAs s (Ok n) k f c₀ c v₀ v r₀ r b₀ b e₀ e w₀ w p₀ p = (s ≡ ok tt) × CountsOf n k f × ListsHeld k f c₀ c v₀ v r₀ r b₀ b e₀ e w₀ w p₀ p
ListedAs s (Err x) k f c₀ c v₀ v r₀ r b₀ b e₀ e w₀ w p₀ p = s ≡ refused x

-- by the definition's rooms the answer and the columns say what the definition g says
abbrev pub ListsGive : Book → Fit → ListRooms → LentColumn (List ℕ) → LentColumn Float → LentColumn (List ℕ) → LentColumn Float → LentColumn (List ℕ) → LentColumn Float → LentColumn (List ℕ) → Result ListCounts Refusal → (outcome.Rooms → Res Unit) → Type 0
ListsGive k f s c v r b e w p a g =
    (q : outcome.Rooms) → RoomsOf q s
    → ListedAs (g q) a k f c.entry.now c.exit.now v.entry.now v.exit.now r.entry.now r.exit.now b.entry.now b.exit.now e.entry.now e.exit.now w.entry.now w.exit.now p.entry.now p.exit.now
