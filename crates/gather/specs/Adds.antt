-- What a function promises that adds to a pile. Definitions only.
use Rattle.std.specs.Prelude.{ℕ, ◌+◌, ◌≤◌, ◌≡◌, Bool, true, List, T, Float, Result, length, get_or, Ok, Err}
use denote.Triple.Both.{Both}
use Rattle.columns.specs.Lending.{Column, LentColumn}
use Rattle.laws.specs.Floats.{finite}
use Rattle.rules.specs.Answer.{Res}
use Rattle.rules.specs.Dispatch.{Row}
use Rattle.rules.specs.Operate.{Values}
use Rattle.rules.specs.Value.{World, Mem, Gathered, own_sources}
use Rattle.rules.specs.declared.Effect.{Effect}
use Rattle.rules.specs.declared.EffectOperator.{EffectOperator}
use Rattle.rules.specs.declared.Refusal.{Refusal}
use Rattle.operate.specs.Held as bucket
use Rattle.sources.specs.declared.Recording.{Recording}
use Rattle.sources.specs.declared.SourceCounts.{SourceCounts}
use Rattle.sources.specs.Keeping.{RunOf, Begins, Keeping}
use Rattle.gather.specs.declared.Pile.{Pile}
use Rattle.gather.specs.declared.Growing.{Growing}
use Rattle.gather.specs.Piles.{whole, whole_if, Eights, PileOf, PiledAs}

-- the pile in four lent columns: as it is now, and at entry and at exit
abbrev pub pile_of : Column Float → Column ℕ → Column Float → Column ℕ → Growing → Pile
pile_of pv ps nv ns p = whole pv.now ps.now nv.now ns.now p

abbrev pub piled : LentColumn Float → LentColumn ℕ → LentColumn Float → LentColumn ℕ → Growing → Growing → Both Pile Pile
piled pv ps nv ns p r =
    record { entry = pile_of pv.entry ps.entry nv.entry ns.entry p; exit = pile_of pv.exit ps.exit nv.exit ns.exit r }

-- what a pile has become in a call that may be refused
abbrev pub grown_if : Growing → Result Unit Refusal → Result Growing Refusal
grown_if p (Ok t) = Ok p
grown_if p (Err y) = Err y

-- the same of a call that may be refused
abbrev pub tried : LentColumn Float → LentColumn ℕ → LentColumn Float → LentColumn ℕ → Growing → Result Growing Refusal → Both Pile (Result Pile Refusal)
tried pv ps nv ns p r =
    record { entry = pile_of pv.entry ps.entry nv.entry ns.entry p; exit = whole_if pv.exit.now ps.exit.now nv.exit.now ns.exit.now r }

abbrev pub EightsAt : Column Float → Column ℕ → Column Float → Column ℕ → Type 0
EightsAt pv ps nv ns = Eights pv.now ps.now nv.now ns.now

-- over any columns of copies, r is the pile of the values g that finds v, before any of row i's source rows
abbrev pub PileBegins : Float → SourceCounts → Growing → Values → Type 0
PileBegins v began r g =
    (counts : List ℕ) (room : ℕ) (s₀ : List (List ℕ)) (f₀ : List (List Float)) (i : ℕ) (high : Bool) (op : EffectOperator) (m : Mem) (s : List (List ℕ)) (f : List (List Float))
    (pv : List Float) (ps : List ℕ) (nv : List Float) (ns : List ℕ)
    → T (finite v) → Keeping counts room s₀ f₀ i m s f began.own began.used
    → PileOf counts room s₀ f₀ i high op v (record { mem = m; values = g }) (whole pv ps nv ns r) s f

-- the buckets held any copies, and hold what the definition f makes of them by a finite value
abbrev pub CopiesGive : Both Pile Pile → Float → (Values → Values) → Type 0
CopiesGive pile x f =
    (g : Values) → T (finite x)
    → bucket.Gathered g.positive pile.entry.positive → bucket.Gathered g.negative pile.entry.negative
    → bucket.Gathered (f g).positive pile.exit.positive × bucket.Gathered (f g).negative pile.exit.negative

-- the pile and list 5 held what is gathered, g, and with n source rows more of row i planned they hold the answer a
abbrev pub Takes : World → List ℕ → List (List ℕ) → List (List Float) → ℕ → Bool → EffectOperator → Float → Both Pile (Result Pile Refusal) → LentColumn (List ℕ) → LentColumn (List Float) → ℕ → Gathered → Res Gathered → Type 0
Takes w counts s₀ f₀ i high op found pile sources floats n g a =
    PileOf counts w.room s₀ f₀ i high op found g pile.entry sources.entry.now floats.entry.now
    → (w.recording ≡ true → length (own_sources i g.mem) + n ≤ get_or counts i 0)
    → PiledAs counts w.room s₀ f₀ i high op found a pile.exit sources.exit.now floats.exit.now

-- of any row and pile, n source rows planned, the call gives what the definition f gathers: an entry of strength v on a row of an object
abbrev pub EntryGives : Recording → ℕ → ℕ → Bool → Effect → Float → Both Pile (Result Pile Refusal) → LentColumn (List ℕ) → LentColumn (List Float) → ℕ → (World → ℕ → Row → Gathered → Res Gathered) → Type 0
EntryGives run first object high e v pile sources floats n f =
    (w : World) (counts : List ℕ) (s₀ : List (List ℕ)) (f₀ : List (List Float)) (i : ℕ) (row : Row) (op : EffectOperator) (found : Float) (g : Gathered)
    → RunOf w run → Begins counts i first → row.object ≡ object → e.operator ≡ op → T (finite v)
    → Takes w counts s₀ f₀ i high op found pile sources floats n g (f w i row g)

-- the same of a penalised entry, whose simplified value is x
abbrev pub PenalisedGives : Recording → ℕ → Float → Both Pile (Result Pile Refusal) → LentColumn (List ℕ) → LentColumn (List Float) → ℕ → (World → ℕ → Row → Gathered → Res Gathered) → Type 0
PenalisedGives run first x pile sources floats n f =
    (w : World) (counts : List ℕ) (s₀ : List (List ℕ)) (f₀ : List (List Float)) (i : ℕ) (row : Row) (high : Bool) (op : EffectOperator) (found : Float) (g : Gathered)
    → RunOf w run → Begins counts i first → T (finite x)
    → Takes w counts s₀ f₀ i high op found pile sources floats n g (f w i row g)

-- of an unpenalised one, over any columns of copies
abbrev pub PlainGives : Recording → ℕ → Bool → Effect → Float → Growing → Result Growing Refusal → LentColumn (List ℕ) → LentColumn (List Float) → ℕ → (World → ℕ → Row → Gathered → Res Gathered) → Type 0
PlainGives run first high e x p r sources floats n f =
    (w : World) (counts : List ℕ) (s₀ : List (List ℕ)) (f₀ : List (List Float)) (i : ℕ) (row : Row) (op : EffectOperator) (found : Float) (g : Gathered)
    (pv : List Float) (ps : List ℕ) (nv : List Float) (ns : List ℕ)
    → RunOf w run → Begins counts i first → T (finite x) → e.operator ≡ op
    → Takes w counts s₀ f₀ i high op found (record { entry = whole pv ps nv ns p; exit = whole_if pv ps nv ns r }) sources floats n g (f w i row g)

-- of one that does not run
abbrev pub IdleGives : Recording → ℕ → Growing → Result Growing Refusal → LentColumn (List ℕ) → LentColumn (List Float) → ℕ → (World → ℕ → Row → Gathered → Res Gathered) → Type 0
IdleGives run first p r sources floats n f =
    (w : World) (counts : List ℕ) (s₀ : List (List ℕ)) (f₀ : List (List Float)) (i : ℕ) (row : Row) (high : Bool) (op : EffectOperator) (found : Float) (g : Gathered)
    (pv : List Float) (ps : List ℕ) (nv : List Float) (ns : List ℕ)
    → RunOf w run → Begins counts i first
    → Takes w counts s₀ f₀ i high op found (record { entry = whole pv ps nv ns p; exit = whole_if pv ps nv ns r }) sources floats n g (f w i row g)
