-- What a function of the cycle is lent, and what it answers. Definitions only.
use Rattle.std.specs.Prelude.{ℕ, ◌≡◌, Bool, true, false, List, [], ◌∷◌, Float, Result}
use Rattle.std.specs.Borrow.{Bor}
use denote.Triple.Both.{Both}
use Rattle.columns.specs.Lending.{Column, LentColumn}
use Rattle.rules.specs.Answer.{Res}
use Rattle.rules.specs.Codes.{operators}
use Rattle.rules.specs.Dispatch.{Row}
use Rattle.rules.specs.Operate.{Values}
use Rattle.rules.specs.Value.{World, Mem, Read, Gathered}
use Rattle.rules.specs.declared.EffectOperator.{EffectOperator}
use Rattle.rules.specs.declared.Refusal.{Refusal}
use Rattle.rules.specs.declared.EffectOperator.TheVariants.{PreAssign, PreMul, PreDiv, ModAdd, ModSub, PostMul, PostDiv, PostPercent, PostAssign}
use Rattle.sources.specs.declared.Recording.{Recording}
use Rattle.sources.specs.declared.SourceCounts.{SourceCounts}
use Rattle.gather.specs.declared.Pile.{Pile}
use Rattle.memory.specs.Holding.{tables_of, PileMeets}
use Rattle.memory.specs.declared.ReadColumns.{ReadColumns}
use Rattle.memory.specs.Holding as holding
use Rattle.memory.specs.Answers.{Returns, PartReturns}
use Rattle.memory.specs.declared.apply.Got.{Got}
use Rattle.memory.specs.declared.apply.Part.{Part}

-- "Assign takes the last of equal greatest, or the first of equal least"
abbrev pub is_assign : EffectOperator → Bool
is_assign PreAssign = true
is_assign PreMul = false
is_assign PreDiv = false
is_assign ModAdd = false
is_assign ModSub = false
is_assign PostMul = false
is_assign PostDiv = false
is_assign PostPercent = false
is_assign PostAssign = true

-- the values of references to what is only read: to numbers, rows of numbers, floats; and of one that is lent to be written, to pairs of floats
abbrev pub Numbers : Type 0
Numbers = Bor (List ℕ)

abbrev pub Rows : Type 0
Rows = Bor (List (List ℕ))

abbrev pub Floats : Type 0
Floats = Bor (List Float)

abbrev pub Pairs : Type 0
Pairs = Column (List Float)

-- what a parameter that is lent is at entry and at exit
abbrev pub Lent : Type 0 → Type 0
Lent X = Both X X

-- the columns hold some world and some memory
abbrev pub ReadyNow : ReadColumns → Column Float → Column (List ℕ) → Pairs → Recording → ℕ → Type 0
ReadyNow c v s f run used = holding.Ready (tables_of c) run v.now s.now f.now used

-- and row i is under calculation
abbrev pub BusyNow : ReadColumns → Column Float → Column (List ℕ) → Pairs → Recording → ℕ → ℕ → ℕ → List EffectOperator → Type 0
BusyNow c v s f run used i own ops = holding.Busy (tables_of c) run v.now s.now f.now used i own ops

-- of the world and the memory that the columns held, the call gives what the definition g gives, and they hold the memory that g leaves
abbrev pub Gives : ReadColumns → LentColumn Float → LentColumn (List ℕ) → Lent Pairs → Recording → ℕ → Result Got Refusal → (World → Mem → Res Read) → Type 0
Gives c v s f run used r g =
    (h : holding.Ready (tables_of c) run v.entry.now s.entry.now f.entry.now used)
    → Returns h.world h.sources₀ h.floats₀ (g h.world h.mem) r v.exit.now s.exit.now f.exit.now

-- the same of row i under calculation
abbrev pub BusyGives : ReadColumns → LentColumn Float → LentColumn (List ℕ) → Lent Pairs → Recording → ℕ → ℕ → Result Got Refusal → (World → Mem → Res Read) → Type 0
BusyGives c v s f run used i r g =
    (h : holding.Busy (tables_of c) run v.entry.now s.entry.now f.entry.now used i 0 operators)
    → Returns h.ready.world h.ready.sources₀ h.ready.floats₀ (g h.ready.world h.ready.mem) r v.exit.now s.exit.now f.exit.now

-- the same of one operator of row i
abbrev pub PartGives : ReadColumns → LentColumn Float → LentColumn (List ℕ) → Lent Pairs → Recording → SourceCounts → ℕ → EffectOperator → Result Part Refusal → (World → Mem → Res Read) → Type 0
PartGives c v s f run counts i op r g =
    (h : holding.Busy (tables_of c) run v.entry.now s.entry.now f.entry.now counts.used i counts.own (op ∷ []))
    → PartReturns h.ready.world h.ready.sources₀ h.ready.floats₀ i (g h.ready.world h.ready.mem) r v.exit.now s.exit.now f.exit.now

-- the same of an entry, on any row of an object
abbrev pub GivesOn : ReadColumns → LentColumn Float → LentColumn (List ℕ) → Lent Pairs → Recording → ℕ → ℕ → Result Got Refusal → (World → ℕ → Row → Mem → Res Read) → Type 0
GivesOn c v s f run used object r g =
    (h : holding.Ready (tables_of c) run v.entry.now s.entry.now f.entry.now used) (i : ℕ) (row : Row) → row.object ≡ object
    → Returns h.world h.sources₀ h.floats₀ (g h.world i row h.mem) r v.exit.now s.exit.now f.exit.now

-- row i is under calculation, and the pile holds what the entries before entry k gave
abbrev pub Piling : ReadColumns → Column Float → Column (List ℕ) → Pairs → Recording → ℕ → ℕ → Bool → EffectOperator → Pile → Type 0
Piling c v s f run i k high op p = holding.Piling (tables_of c) run v.now s.now f.now i k high op p

-- the pile holds what the definition g gathers
abbrev pub PileGives : ReadColumns → LentColumn Float → LentColumn (List ℕ) → Lent Pairs → Both Pile (Result Pile Refusal) → Recording → ℕ → ℕ → Bool → EffectOperator → (World → Mem → Values → Res Gathered) → Type 0
PileGives c v s f pile run i k high op g =
    (h : holding.Piling (tables_of c) run v.entry.now s.entry.now f.entry.now i k high op pile.entry)
    → PileMeets h.ready.world h.ready.sources₀ h.ready.floats₀ i high op h.found (g h.ready.world h.ready.mem h.values) pile.exit v.exit.now s.exit.now f.exit.now
