-- What dispatch gives: the definition's rows and entries, or the list that is full first. Definitions only.
use Rattle.std.specs.Prelude.{ℕ, ◌≤◌, ◌≡◌, List, Float, length, Result, Ok, Err}
use Rattle.std.proofs.Math.Option.{Option, none}
use Rattle.rules.specs.Sheet.{Book, Fit}
use Rattle.rules.specs.Dispatch.{base_keys, hit_keys, full_at, rows}
use Rattle.rules.specs.Answer.{refused}
use Rattle.rules.specs.Outcome as outcome
use Rattle.rules.specs.declared.Pass2Effect.{Pass2Effect}
use Rattle.rules.specs.declared.Refusal.{Refusal}
use Rattle.hits.specs.Strikes.{AllPointing, AllNarrow}
use Rattle.rows.specs.Entries.{Collected}
use Rattle.rows.specs.Laying.{entries_of}
use Rattle.rows.specs.Parts.{ListsLaid}
use Rattle.dispatch.specs.declared.DispatchedCounts.{DispatchedCounts}

-- the columns of list 1 hold these n effects from the front on; their sources and targets are among so many objects
pub record Collection (es : List Pass2Effect) (n : ℕ) (c : List (List ℕ)) (v : List Float) (objects : ℕ) : Type 0 where
  pub count : n ≡ length es
  pub inside : n ≤ length c
  pub even : n ≤ length v
  pub held : Collected es c v
  pub points : AllPointing es c objects
  pub narrow : AllNarrow es

-- they hold n effects
pub record Collecting (n : ℕ) (c : List (List ℕ)) (v : List Float) (objects : ℕ) : Type 0 where
  pub effects : List Pass2Effect
  pub collection : Collection effects n c v objects

-- the list that is full at a hit, if one is
abbrev pub full : ℕ → ℕ → Book → Fit → List Pass2Effect → Option ℕ
full room2 room3 k f es = full_at room2 room3 (base_keys f) (length (base_keys f)) 0 (hit_keys k f es)

-- the columns of lists 2 and 3 hold the definition's rows and entries, counted; or the definition refuses, for the list that is full
abbrev pub Given : Result DispatchedCounts Refusal → ℕ → ℕ → Book → Fit → List Pass2Effect → List (List ℕ) → List (List ℕ) → List Float → List Float → List (List ℕ) → List (List ℕ) → List Float → List Float → Type 0
Given (Ok n) room2 room3 k f es r₀ r b₀ b' e₀ e v₀ v =
    (full room2 room3 k f es ≡ none) × (n.rows ≡ length (rows k f es)) × (n.entries ≡ length (entries_of (rows k f es))) × ListsLaid (rows k f es) r₀ r b₀ b' e₀ e v₀ v × (n.rows ≤ room2)
Given (Err x) room2 room3 k f es r₀ r b₀ b' e₀ e v₀ v = outcome.full (full room2 room3 k f es) ≡ refused x
