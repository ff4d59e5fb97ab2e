-- What the columns say of the world and of the memory, and what an answer says. Definitions only.
use Rattle.std.specs.Prelude.{ℕ, ◌+◌, ◌≤◌, ◌<◌, ◌≡◌, Bool, true, List, [], ◌∷◌, map, T, Float, Result, Ok, Err, length, get_or, take}
use Rattle.std.proofs.Math.Option.{Option, none, some}
use Rattle.std.specs.Float.{nan}
use Rattle.std.specs.Int.{w32}
use Rattle.std.proofs.Common.{to_z}
use Rattle.laws.specs.Floats.{finite}
use Rattle.laws.specs.Lists.{total}
use Rattle.rules.specs.Answer.{Res, ok, refused}
use Rattle.rules.specs.Dispatch.{Row}
use Rattle.rules.specs.Info.{get_dogma_attribute, high_is_good}
use Rattle.rules.specs.Sheet.{book_of}
use Rattle.rules.specs.Columns.{origin_value}
use Rattle.rules.specs.Operate.{Values}
use Rattle.rules.specs.Value.{World, Mem, Gathered, own_sources, state_of}
use Rattle.rules.specs.declared.Effect.{Effect}
use Rattle.rules.specs.declared.EffectOperator.{EffectOperator}
use Rattle.rules.specs.declared.Refusal.{Refusal}
use Rattle.info.specs.Sound.{SoundBook}
use Rattle.reading.specs.Held.{RowsHeld, EntryHeld, Sourced}
use Rattle.reading.specs.Stretched.{Stretched, Limits}
use Rattle.sources.specs.declared.Recording.{Recording}
use Rattle.sources.specs.Shown.{first32}
use Rattle.sources.specs.Planned.{counts_of, planned_for, planned_by}
use Rattle.sources.specs.Keeping.{RunOf, Keeping}
use Rattle.gather.specs.declared.Pile.{Pile}
use Rattle.gather.specs.Piles.{PileOf}
use Rattle.memory.specs.declared.ReadColumns.{ReadColumns}
use Rattle.memory.specs.Memory.{value_at, value_column, AllFinite}
use Rattle.memory.specs.Steps.{row_at, entry_at}

-- the columns that a calculation only reads
pub record Tables : Type 0 where
  pub book : List ℕ
  pub pairs : List (List ℕ)
  pub states : List (List ℕ)
  pub stretches : List (List ℕ)
  pub limits : List ℕ
  pub rows : List (List ℕ)
  pub bases : List Float
  pub entries : List (List ℕ)
  pub values : List Float

abbrev pub tables : List ℕ → List (List ℕ) → List (List ℕ) → List (List ℕ) → List ℕ → List (List ℕ) → List Float → List (List ℕ) → List Float → Tables
tables b p s x l r c e v = record { book = b; pairs = p; states = s; stretches = x; limits = l; rows = r; bases = c; entries = e; values = v }

-- the same of the columns that the code is passed
abbrev pub tables_of : ReadColumns → Tables
tables_of c = tables c.book.now c.pairs.now c.states.now c.stretches.now c.limits.now c.rows.now c.bases.now c.entries.now c.entry_values.now

-- whether high is good of row i's attribute
abbrev pub high_at : Tables → ℕ → Bool
high_at t i = high_is_good (get_dogma_attribute (book_of t.book t.pairs) (to_z w32 (get_or (get_or t.rows i []) 1 0)))

-- where the entries of row i begin in list 3
abbrev pub entries_from : World → ℕ → ℕ
entries_from w i = total (take i (map (λ r. length r.entries) w.rows))

-- an entry may be read: its source is an object, and what a buff gives is a number
pub record Good (e : Effect) : Type 0 where
  pub sourced : Sourced e.origin
  pub valued : T (finite (origin_value e.origin))

-- row i of list 2, with its entries in list 3
pub record RowTold (w : World) (t : Tables) (i : ℕ) : Type 0 where
  pub first : get_or (get_or t.rows i []) 2 0 ≡ entries_from w i
  pub count : get_or (get_or t.rows i []) 3 0 ≡ length (row_at w i).entries
  pub place : get_or (get_or t.rows i []) 4 0 ≡ first32 (counts_of w) i
  pub base : get_or t.bases i nan ≡ (row_at w i).base
  pub number : T (finite (row_at w i).base)
  pub object : (row_at w i).object < 1024
  pub inside : (entries_from w i + length (row_at w i).entries ≤ length t.entries) × (entries_from w i + length (row_at w i).entries ≤ length t.values)
  pub entry : (k : ℕ) (d : Effect) → k < length (row_at w i).entries → EntryHeld (get_or (row_at w i).entries k d) (get_or t.entries (entries_from w i + k) []) (get_or t.values (entries_from w i + k) nan)
  pub good : (k : ℕ) (d : Effect) → k < length (row_at w i).entries → Good (get_or (row_at w i).entries k d)

-- the columns that are only read hold the world; s₀ and f₀ are list 5 before the first source row
pub record Tells (w : World) (s₀ : List (List ℕ)) (f₀ : List (List Float)) (t : Tables) (run : Recording) : Type 0 where
  pub sound : SoundBook t.book t.pairs
  pub records : w.book ≡ book_of t.book t.pairs
  pub recorded : RunOf w run
  pub roomy : (w.room ≤ length s₀) × (w.room ≤ length f₀)
  pub held : RowsHeld w.rows t.rows
  pub stretched : Stretched w.rows t.stretches
  pub limited : Limits w.book t.limits
  pub even : length t.bases ≡ length t.rows
  pub row : (i : ℕ) → i < length w.rows → RowTold w t i
  pub running : (o : ℕ) → o < 1024 → get_or (get_or t.states o []) 0 0 ≡ state_of w o

-- what is written holds the memory: v the values, s and f list 5 with so many source rows
pub record Holds (w : World) (s₀ : List (List ℕ)) (f₀ : List (List Float)) (m : Mem) (v : List Float) (s : List (List ℕ)) (f : List (List Float)) (used : ℕ) : Type 0 where
  pub values : v ≡ value_column m.values
  pub long : length m.values ≡ length w.rows
  pub numbers : AllFinite m.values
  pub sources : (i : ℕ) → Keeping (counts_of w) w.room s₀ f₀ i m s f (length (own_sources i m)) used
  pub clean : (i : ℕ) → value_at m i ≡ none → own_sources i m ≡ []

-- the columns hold some world and some memory
pub record Ready (t : Tables) (run : Recording) (v : List Float) (s : List (List ℕ)) (f : List (List Float)) (used : ℕ) : Type 0 where
  pub world : World
  pub mem : Mem
  pub sources₀ : List (List ℕ)
  pub floats₀ : List (List Float)
  pub told : Tells world sources₀ floats₀ t run
  pub holds : Holds world sources₀ floats₀ mem v s f used

-- row i reads as its base
abbrev pub Begun : World → Mem → ℕ → Type 0
Begun w m i = value_at m i ≡ some (row_at w i).base

-- and row i is under calculation: it reads as its base, has own source rows, and room for those of the operators to come
pub record Busy (t : Tables) (run : Recording) (v : List Float) (s : List (List ℕ)) (f : List (List Float)) (used : ℕ) (i own : ℕ) (ops : List EffectOperator) : Type 0 where
  pub ready : Ready t run v s f used
  pub within : i < length ready.world.rows
  pub begun : Begun ready.world ready.mem i
  pub mine : own ≡ length (own_sources i ready.mem)
  pub enough : ready.world.recording ≡ true → own + planned_by ready.world ops (row_at ready.world i).entries ≤ get_or (counts_of ready.world) i 0

-- the same while one operator's entries are gathered: the pile holds what the entries before entry k gave
pub record Piling (t : Tables) (run : Recording) (v : List Float) (s : List (List ℕ)) (f : List (List Float)) (i k : ℕ) (high : Bool) (op : EffectOperator) (p : Pile) : Type 0 where
  pub ready : Ready t run v s f p.counts.used
  pub within : i < length ready.world.rows
  pub begun : Begun ready.world ready.mem i
  pub inside : k < length (row_at ready.world i).entries
  pub values : Values
  pub found : Float
  pub piled : PileOf (counts_of ready.world) ready.world.room ready.sources₀ ready.floats₀ i high op found (record { mem = ready.mem; values = values }) p s f
  pub enough : ready.world.recording ≡ true → length (own_sources i ready.mem) + planned_for ready.world op (entry_at ready.world i k ∷ []) ≤ get_or (counts_of ready.world) i 0

-- an operator's pile as an answer
abbrev pub PileMeets : World → List (List ℕ) → List (List Float) → ℕ → Bool → EffectOperator → Float → Res Gathered → Result Pile Refusal → List Float → List (List ℕ) → List (List Float) → Type 0
PileMeets w s₀ f₀ i high op found (ok g) (Ok p) v s f = PileOf (counts_of w) w.room s₀ f₀ i high op found g p s f × Holds w s₀ f₀ g.mem v s f p.counts.used
PileMeets w s₀ f₀ i high op found (ok g) (Err z) v s f = ⊥
PileMeets w s₀ f₀ i high op found (refused y) (Ok p) v s f = ⊥
PileMeets w s₀ f₀ i high op found (refused y) (Err z) v s f = z ≡ y
