-- What the columns hold before and after the values are set. Definitions only.
use Rattle.std.specs.Prelude.{ℕ, ◌≡◌, Bool, true, false, List, ◌++◌, map, eqb, Float, length, drop, Result, Ok, Err}
use Rattle.std.proofs.Math.Option.{Option, get_or}
use Rattle.columns.specs.Lending.{LentColumn}
use Rattle.laws.specs.Columns.{Col}
use Rattle.laws.specs.Floats.{zero_f}
use Rattle.rules.specs.declared.Refusal.{Refusal}
use Rattle.rules.specs.Answer.{Res, ok, refused}
use Rattle.rules.specs.Columns.{rows_numbers, source_numbers, source_floats}
use Rattle.rules.specs.Dispatch.{Row}
use Rattle.rules.specs.Outcome.{rows_in}
use Rattle.rules.specs.Sheet.{Book, Fit}
use Rattle.rules.specs.Value.{Mem}
use Rattle.states.specs.Raised.{rows_of}
use Rattle.rows.specs.Parts.{ListsLaid}
use Rattle.sources.specs.declared.Recording.{Recording}
use Rattle.sources.specs.Rows.{counts_by, planned_numbers}
use Rattle.pass_3.specs.Calls.{Rows, Floats, Lent}
use Rattle.values.specs.Complete.{all_sources}

-- the column r after planning, by whether source rows are recorded
abbrev pub planned_rows : Bool → ℕ → List Row → List (List ℕ) → List (List ℕ) → List (List ℕ)
planned_rows true n rs st r = planned_numbers 0 0 rs (counts_by st rs) ++ drop n r
planned_rows false n rs st r = r

-- the n rows of the sheet are laid, with their entries, over some columns, and its states are there
pub record RowsListed (k : Book) (f : Fit) (n : ℕ) (run : Recording) (st r : List (List ℕ)) (b : List Float) (e : List (List ℕ)) (v : List Float) : Type 0 where
  pub rows₀ : List (List ℕ)
  pub bases₀ : List Float
  pub entries₀ : List (List ℕ)
  pub values₀ : List Float
  pub lists : ListsLaid (rows_in k f) rows₀ r bases₀ b entries₀ e values₀ v
  pub count : n ≡ length (rows_in k f)
  pub states : st ≡ rows_of k f
  pub recording : run.recording ≡ eqb f.recording 1

-- r, v, s and g, which were r₀, v₀, s₀ and g₀, hold the numbers of the rows, their values and their source rows
pub record Set (rs : List Row) (m : Mem) (used : ℕ) (r₀ r : List (List ℕ)) (v₀ v : List Float) (s₀ s : List (List ℕ)) (g₀ g : List (List Float)) : Type 0 where
  pub count : used ≡ length (all_sources m)
  pub rows : Col (λ x. x) (rows_numbers 0 0 rs m.sources) r₀ r
  pub values : Col (λ x. x) (map (λ (o : Option Float). get_or o zero_f) m.values) v₀ v
  pub numbers : Col source_numbers (all_sources m) s₀ s
  pub floats : Col source_floats (all_sources m) g₀ g

-- all are set, or one is refused
abbrev pub SetAs : List Row → Res Mem → Result ℕ Refusal → List (List ℕ) → List (List ℕ) → List Float → List Float → List (List ℕ) → List (List ℕ) → List (List Float) → List (List Float) → Type 0
SetAs rs (ok m) (Ok used) r₀ r v₀ v s₀ s g₀ g = Set rs m used r₀ r v₀ v s₀ s g₀ g
SetAs rs (ok m) (Err z) r₀ r v₀ v s₀ s g₀ g = ⊥
SetAs rs (refused y) (Ok used) r₀ r v₀ v s₀ s g₀ g = ⊥
SetAs rs (refused y) (Err z) r₀ r v₀ v s₀ s g₀ g = z ≡ y

-- of the sheet's rows in the columns that are only read, the others hold what the definition's answer a says
abbrev pub SetGives : Book → Fit → ℕ → Recording → Lent Rows → Lent Floats → Lent Rows → Lent Floats → LentColumn (List ℕ) → LentColumn Float → LentColumn (List ℕ) → LentColumn (List Float) → Result ℕ Refusal → Res Mem → Type 0
SetGives k f n run states bases entries entry_values rows values sources floats r a =
    (h : RowsListed k f n run states.entry.now rows.entry.now bases.entry.now entries.entry.now entry_values.entry.now)
    → SetAs (rows_in k f) a r h.rows₀ rows.exit.now values.entry.now values.exit.now sources.entry.now sources.exit.now floats.entry.now floats.exit.now
