-- What the answers of the calculation say. Definitions only.
use Rattle.std.specs.Prelude.{ℕ, ◌≡◌, Bool, true, false, List, [], ◌++◌, T, Float, Result, Ok, Err, length}
use Rattle.columns.specs.Lending.{LentColumn}
use Rattle.laws.specs.Floats.{finite}
use Rattle.rules.specs.Answer.{Res, ok, refused, ◌>>=◌}
use Rattle.rules.specs.Dispatch.{Row}
use Rattle.rules.specs.Number.{number_at}
use Rattle.rules.specs.Operate.{applied, has_penalty}
use Rattle.rules.specs.Value.{World, Read, Gathered, own_sources, marked_by, at_least, at_most}
use Rattle.rules.specs.declared.EffectOperator.{EffectOperator}
use Rattle.rules.specs.declared.Refusal.{Refusal}
use Rattle.sources.specs.declared.Recording.{Recording}
use Rattle.sources.specs.Keeping.{RunOf, Begins, Keeping}
use Rattle.sources.specs.Marks.{Fresh}
use Rattle.gather.specs.declared.Pile.{Pile}
use Rattle.gather.specs.Piles.{PileOf}
use Rattle.memory.specs.Holding.{Holds}
use Rattle.memory.specs.declared.apply.Got.{Got}
use Rattle.memory.specs.declared.apply.Part.{Part}

-- what is gathered is applied to the value found
unfoldable pub applying : Row → Bool → EffectOperator → Float → ℕ → Gathered → Res Read
applying row high op found i g = number_at row.object (applied high op found g.values) >>= λ v. ok (record { value = v; mem = marked_by i g })

-- a limit is the least or the most
abbrev pub held_by : Bool → Float → Float → Float
held_by true = at_least
held_by false = at_most

-- the value of one operator, with list 5 as it is then
abbrev pub AppliedAs : List ℕ → ℕ → List (List ℕ) → List (List Float) → ℕ → Res Read → Result Part Refusal → List (List ℕ) → List (List Float) → Type 0
AppliedAs counts room s₀ f₀ i (ok q) (Ok p) s f = (p.value ≡ q.value) × T (finite p.value) × Keeping counts room s₀ f₀ i q.mem s f p.counts.own p.counts.used
AppliedAs counts room s₀ f₀ i (ok q) (Err z) s f = ⊥
AppliedAs counts room s₀ f₀ i (refused y) (Ok p) s f = ⊥
AppliedAs counts room s₀ f₀ i (refused y) (Err z) s f = z ≡ y

-- of any row and pile p that holds what is gathered, with source rows that wait, a call gives what the definition f gives, and list 5 holds it
abbrev pub Applies : Recording → ℕ → ℕ → Pile → LentColumn (List Float) → Result Part Refusal → (Row → Bool → EffectOperator → Float → ℕ → Gathered → Res Read) → Type 0
Applies run first object p floats r f =
    (w : World) (counts : List ℕ) (s₀ : List (List ℕ)) (f₀ : List (List Float)) (i : ℕ) (row : Row) (high : Bool) (op : EffectOperator) (found : Float) (g : Gathered) (s : List (List ℕ))
    → RunOf w run → Begins counts i first → row.object ≡ object
    → PileOf counts w.room s₀ f₀ i high op found g p s floats.entry.now
    → (w.recording ≡ true → Fresh (own_sources i g.mem) (g.values.positive ++ g.values.negative))
    → (w.recording ≡ false → own_sources i g.mem ≡ [])
    → (has_penalty op ≡ false → (g.values.positive ≡ []) × (g.values.negative ≡ []))
    → AppliedAs counts w.room s₀ f₀ i (f row high op found i g) r s floats.exit.now

-- the value of an attribute, with the columns as they are then
abbrev pub Returns : World → List (List ℕ) → List (List Float) → Res Read → Result Got Refusal → List Float → List (List ℕ) → List (List Float) → Type 0
Returns w s₀ f₀ (ok q) (Ok g) v s f = (g.value ≡ q.value) × T (finite g.value) × Holds w s₀ f₀ q.mem v s f g.used
Returns w s₀ f₀ (ok q) (Err z) v s f = ⊥
Returns w s₀ f₀ (refused y) (Ok g) v s f = ⊥
Returns w s₀ f₀ (refused y) (Err z) v s f = z ≡ y

-- the same after one operator of row i, with its own source rows
abbrev pub PartReturns : World → List (List ℕ) → List (List Float) → ℕ → Res Read → Result Part Refusal → List Float → List (List ℕ) → List (List Float) → Type 0
PartReturns w s₀ f₀ i (ok q) (Ok p) v s f = (p.value ≡ q.value) × T (finite p.value) × (p.counts.own ≡ length (own_sources i q.mem)) × Holds w s₀ f₀ q.mem v s f p.counts.used
PartReturns w s₀ f₀ i (ok q) (Err z) v s f = ⊥
PartReturns w s₀ f₀ i (refused y) (Ok p) v s f = ⊥
PartReturns w s₀ f₀ i (refused y) (Err z) v s f = z ≡ y
