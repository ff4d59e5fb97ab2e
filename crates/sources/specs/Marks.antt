-- Source rows that wait for their penalties, and where a penalty goes. Definitions only.
use Rattle.std.specs.Prelude.{ℕ, ◌<◌, ◌≡◌, true, false, cond, List, [], ◌∷◌, Float, length, get_or}
use Rattle.std.specs.Float.{nan}
use Rattle.columns.specs.Lending.{LentColumn}
use Rattle.laws.specs.Floats.{zero_f}
use Rattle.rules.specs.Operate.{Copy}
use Rattle.rules.specs.Value.{World, Mem, no_source, own_sources, with_own}
use Rattle.rules.specs.declared.Source.{Source}
use Rattle.operate.specs.Held.{Gathered}
use Rattle.operate.specs.declared.buckets.Bucket.{Bucket}
use Rattle.sources.specs.declared.Recording.{Recording}
use Rattle.sources.specs.Shown.{placed}
use Rattle.sources.specs.Keeping.{RunOf, Begins, Keeping}

-- a penalised source row whose penalty is not set yet
pub record Waits (r : Source) : Type 0 where
  pub penalised : r.penalised ≡ true
  pub penalty : r.penalty ≡ zero_f

-- k is the source of none of the copies
pub data Away : ℕ → List Copy → Type 0 where
  nowhere : {k : ℕ} → Away k []
  away : {k : ℕ} {x : Copy} {l : List Copy} → (x.source ≡ k → ⊥) → Away k l → Away k (x ∷ l)

-- each copy has a source row among own, which waits, and no two copies have the same
pub data Fresh : List Source → List Copy → Type 0 where
  empty : {own : List Source} → Fresh own []
  fresh : {own : List Source} {x : Copy} {l : List Copy} → x.source < length own → Waits (get_or own x.source no_source) → Away x.source l → Fresh own l → Fresh own (x ∷ l)

-- a penalty at place p, if that is in the room and source rows are recorded; the value beside it stays
abbrev pub penalty_at : Recording → ℕ → Float → List (List Float) → List (List Float)
penalty_at run p x f = cond run.recording (placed run.room p (get_or (get_or f p []) 0 nan ∷ x ∷ []) f) f

-- of any row and memory that list 5 holds, with copies gathered in b whose source rows wait, list 5 holds what the definition g makes of the row's own
abbrev pub MarksGive : Recording → ℕ → Bucket → LentColumn (List Float) → (List Copy → List Source → List Source) → Type 0
MarksGive run first b floats g =
    (w : World) (counts : List ℕ) (s₀ : List (List ℕ)) (f₀ : List (List Float)) (i : ℕ) (m : Mem) (own used : ℕ) (s : List (List ℕ)) (xs : List Copy)
    → RunOf w run → Begins counts i first
    → Keeping counts w.room s₀ f₀ i m s floats.entry.now own used → Gathered xs b
    → (w.recording ≡ true → Fresh (own_sources i m) xs) → (w.recording ≡ false → own_sources i m ≡ [])
    → Keeping counts w.room s₀ f₀ i (with_own i (g xs (own_sources i m)) m) s floats.exit.now own used
