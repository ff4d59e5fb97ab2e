-- What a run of starts answers, and what the walk needs. Definitions only.
use Rattle.std.specs.Prelude.{ℕ, ◌≡◌, true, List, [], Float, length, get_or, Result, Ok, Err}
use Rattle.columns.specs.Lending.{Column, LentColumn}
use Rattle.std.specs.Int.{w32}
use Rattle.std.proofs.Common.{to_z}
use Rattle.rules.specs.declared.Refusal.{Refusal}
use Rattle.rules.specs.Answer.{Res, ok, refused}
use Rattle.rules.specs.Sheet.{Book, fit_of}
use Rattle.rules.specs.Value.{World, Mem}
use Rattle.reading.specs.Stretched.{Limits, Unlimited}
use Rattle.reading.specs.Order.{owned}
use Rattle.sources.specs.declared.Recording.{Recording}
use Rattle.memory.specs.Holding.{Tables, tables_of, Holds, Ready}
use Rattle.memory.specs.declared.ReadColumns.{ReadColumns}
use Rattle.pass_3.specs.Calls.{Numbers, Lent}

-- the columns hold a world whose rows are those of the fit's objects
pub record Walkable (t : Tables) (run : Recording) (v : List Float) (s : List (List ℕ)) (f : List (List Float)) (used : ℕ) (fit : List ℕ) : Type 0 where
  pub ready : Ready t run v s f used
  pub own : owned (length (fit_of fit t.pairs).objects) ready.world.rows ≡ true

-- row i of list 2 has no entries, its attribute has no limit, and depth is left
pub record Untouched (rows : List (List ℕ)) (limits : List ℕ) (i left : ℕ) : Type 0 where
  pub empty : get_or (get_or rows i []) 3 0 ≡ 0
  pub free : (k : Book) → Limits k limits → Unlimited k (to_z w32 (get_or (get_or rows i []) 1 0))
  pub deep : left ≡ 0 → ⊥

-- all starts are valued, or one is refused
abbrev pub ValuedAs : World → List (List ℕ) → List (List Float) → Res Mem → Result ℕ Refusal → List Float → List (List ℕ) → List (List Float) → Type 0
ValuedAs w s₀ f₀ (ok m) (Ok used) v s f = Holds w s₀ f₀ m v s f used
ValuedAs w s₀ f₀ (ok m) (Err z) v s f = ⊥
ValuedAs w s₀ f₀ (refused y) (Ok used) v s f = ⊥
ValuedAs w s₀ f₀ (refused y) (Err z) v s f = z ≡ y

-- of the world and the memory that the columns held, the call gives what the definition g gives, and they hold the memory that g leaves
abbrev pub StartsGive : ReadColumns → LentColumn Float → LentColumn (List ℕ) → LentColumn (List Float) → Recording → Result ℕ Refusal → (World → Mem → Res Mem) → Type 0
StartsGive c v s f run r g =
    (h : Ready (tables_of c) run v.entry.now s.entry.now f.entry.now 0)
    → ValuedAs h.world h.sources₀ h.floats₀ (g h.world h.mem) r v.exit.now s.exit.now f.exit.now

-- the same of a world that may be walked: as a `requires` has it, and as an `ensures` has it
abbrev pub WalkableNow : ReadColumns → Column Float → Column (List ℕ) → Column (List Float) → Recording → ℕ → Numbers → Type 0
WalkableNow c v s f run used fit = Walkable (tables_of c) run v.now s.now f.now used fit.now

abbrev pub WalkGives : ReadColumns → LentColumn Float → LentColumn (List ℕ) → LentColumn (List Float) → Recording → ℕ → Lent Numbers → Result ℕ Refusal → (World → Mem → Res Mem) → Type 0
WalkGives c v s f run used fit r g =
    (h : Walkable (tables_of c) run v.entry.now s.entry.now f.entry.now used fit.entry.now)
    → ValuedAs h.ready.world h.ready.sources₀ h.ready.floats₀ (g h.ready.world h.ready.mem) r v.exit.now s.exit.now f.exit.now
