-- What the columns of list 5 say of the memory while row i is calculated, and what a note's answer says. Definitions only.
use Rattle.std.specs.Prelude.{ℕ, zero, suc, ◌+◌, ◌-◌, ◌≤◌, ◌<◌, min, ◌≡◌, Bool, true, false, List, Float, Result, Ok, Err, length, get_or}
use Rattle.columns.specs.Lending.{LentColumn}
use Rattle.rules.specs.Answer.{Res, ok, refused, ◌>>=◌}
use Rattle.rules.specs.Dispatch.{Row}
use Rattle.rules.specs.Columns.{source_numbers, source_floats}
use Rattle.rules.specs.Value.{World, Mem, own_sources, to_source, note}
use Rattle.rules.specs.declared.Effect.{Effect}
use Rattle.rules.specs.declared.Refusal.{Refusal}
use Rattle.rules.specs.declared.Source.{Source}
use Rattle.sources.specs.declared.Recording.{Recording}
use Rattle.sources.specs.declared.SourceCounts.{SourceCounts}
use Rattle.sources.specs.Shown.{shown, first32}

-- what the world says of recording
pub record RunOf (w : World) (run : Recording) : Type 0 where
  pub room : w.room ≡ run.room
  pub recording : w.recording ≡ run.recording

-- row i is one of those counted, and its places begin at first
pub record Begins (counts : List ℕ) (i first : ℕ) : Type 0 where
  pub row : i < length counts
  pub place : first ≡ first32 counts i

-- the columns s and f, which were s₀ and f₀, hold the source rows of the memory; row i has own of them, all rows have used
pub record Keeping (counts : List ℕ) (room : ℕ) (s₀ : List (List ℕ)) (f₀ : List (List Float)) (i : ℕ) (m : Mem) (s : List (List ℕ)) (f : List (List Float)) (own used : ℕ) : Type 0 where
  pub numbers : s ≡ shown source_numbers room counts m.sources s₀
  pub floats : f ≡ shown source_floats room counts m.sources f₀
  pub mine : own ≡ length (own_sources i m)
  pub all : used ≡ m.used
  pub long : length m.sources ≡ length counts
  pub fits : (j : ℕ) → length (own_sources j m) ≤ get_or counts j 0
  pub few : (j : ℕ) → length (own_sources j m) ≤ m.used
  pub inside : m.used ≤ room

-- an answer after notes of row i
abbrev pub NotedAs : List ℕ → ℕ → List (List ℕ) → List (List Float) → ℕ → Res Mem → Result SourceCounts Refusal → List (List ℕ) → List (List Float) → Type 0
NotedAs counts room s₀ f₀ i (ok m) (Ok c) s f = Keeping counts room s₀ f₀ i m s f c.own c.used
NotedAs counts room s₀ f₀ i (ok m) (Err x) s f = ⊥
NotedAs counts room s₀ f₀ i (refused x) (Ok c) s f = ⊥
NotedAs counts room s₀ f₀ i (refused x) (Err y) s f = y ≡ x

-- of any row and memory that list 5 holds, with n source rows more of the row planned, a call gives what the definition g gives, and list 5 holds it
abbrev pub NotesGive : Recording → ℕ → SourceCounts → ℕ → LentColumn (List ℕ) → LentColumn (List Float) → Result SourceCounts Refusal → (World → ℕ → Row → Mem → Res Mem) → Type 0
NotesGive run first now n sources floats r g =
    (w : World) (counts : List ℕ) (s₀ : List (List ℕ)) (f₀ : List (List Float)) (i : ℕ) (row : Row) (m : Mem)
    → RunOf w run → Begins counts i first
    → Keeping counts w.room s₀ f₀ i m sources.entry.now floats.entry.now now.own now.used
    → (w.recording ≡ true → length (own_sources i m) + n ≤ get_or counts i 0)
    → NotedAs counts w.room s₀ f₀ i (g w i row m) r sources.exit.now floats.exit.now

-- so many source rows more, where they are recorded
abbrev pub more_of : Bool → ℕ → ℕ
more_of true n = n
more_of false n = 0

-- n notes, if none was refused
abbrev pub Advanced : Bool → ℕ → SourceCounts → Result SourceCounts Refusal → Type 0
Advanced recording n before (Ok c) = (c.own ≡ before.own + more_of recording n) × (c.used ≡ before.used + more_of recording n)
Advanced recording n before (Err x) = Unit {0}

-- the same source row so many times
unfoldable pub notes : World → ℕ → Row → ℕ → Source → Mem → Res Mem
notes w i row zero r m = ok m
notes w i row (suc n) r m = note w i row r m >>= λ m'. notes w i row n r m'

-- the source rows of a penalised entry of strength v: at most eight copies, and the rest as one
unfoldable pub penalised_notes : World → ℕ → Row → Effect → Float → Mem → Res Mem
penalised_notes w i row e v m =
    notes w i row (min e.quantity 8) (to_source e v true 1 true) m >>= λ m'. elim (e.quantity - 8) [ zero ↦ ok m' | suc n ↦ note w i row (to_source e v true (suc n) true) m' ]

-- how many they are
abbrev pub penalised_count : ℕ → ℕ
penalised_count q = min q 9
