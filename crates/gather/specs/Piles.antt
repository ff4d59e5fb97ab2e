-- What the code has gathered of an operator, against what the definition has. Definitions only.
use Rattle.std.specs.Prelude.{ℕ, min, ◌≡◌, Bool, true, false, cond, ◌&&◌, List, Float, Result, Ok, Err, length}
use Rattle.rules.specs.Answer.{Res, ok, refused, ◌>>=◌}
use Rattle.rules.specs.Dispatch.{Row}
use Rattle.rules.specs.Operate.{has_penalty}
use Rattle.rules.specs.Value.{World, Gathered, to_source, note, contribute}
use Rattle.rules.specs.declared.Effect.{Effect}
use Rattle.rules.specs.declared.EffectOperator.{EffectOperator}
use Rattle.rules.specs.declared.Refusal.{Refusal}
use Rattle.operate.specs.Held as bucket
use Rattle.operate.specs.SoFar.{RunningOf}
use Rattle.sources.specs.Keeping.{Keeping}
use Rattle.gather.specs.declared.Pile.{Pile}
use Rattle.gather.specs.declared.Growing.{Growing}

-- the pile that grows in four columns, and has so much beside them
abbrev pub whole : List Float → List ℕ → List Float → List ℕ → Growing → Pile
whole pv ps nv ns p = record {
  running = p.running;
  positive = bucket.bucket pv ps p.positive;
  negative = bucket.bucket nv ns p.negative;
  counts = p.counts;
}

-- the same of what may be refused
abbrev pub whole_if : List Float → List ℕ → List Float → List ℕ → Result Growing Refusal → Result Pile Refusal
whole_if pv ps nv ns (Ok p) = Ok (whole pv ps nv ns p)
whole_if pv ps nv ns (Err y) = Err y

-- each column has eight
pub record Eights (pv : List Float) (ps : List ℕ) (nv : List Float) (ns : List ℕ) : Type 0 where
  pub positives : length pv ≡ 8
  pub positive_sources : length ps ≡ 8
  pub negatives : length nv ≡ 8
  pub negative_sources : length ns ≡ 8

-- the pile p holds what is gathered, g, of an operator that found the value v
pub record PileOf (counts : List ℕ) (room : ℕ) (s₀ : List (List ℕ)) (f₀ : List (List Float)) (i : ℕ) (high : Bool) (op : EffectOperator) (v : Float) (g : Gathered) (p : Pile) (s : List (List ℕ)) (f : List (List Float)) : Type 0 where
  pub keeping : Keeping counts room s₀ f₀ i g.mem s f p.counts.own p.counts.used
  pub running : RunningOf high op v g.values.unpenalized p.running
  pub positive : bucket.Gathered g.values.positive p.positive
  pub negative : bucket.Gathered g.values.negative p.negative

-- a pile as an answer
abbrev pub PiledAs : List ℕ → ℕ → List (List ℕ) → List (List Float) → ℕ → Bool → EffectOperator → Float → Res Gathered → Result Pile Refusal → List (List ℕ) → List (List Float) → Type 0
PiledAs counts room s₀ f₀ i high op v (ok g) (Ok p) s f = PileOf counts room s₀ f₀ i high op v g p s f
PiledAs counts room s₀ f₀ i high op v (ok g) (Err y) s f = ⊥
PiledAs counts room s₀ f₀ i high op v (refused x) (Ok p) s f = ⊥
PiledAs counts room s₀ f₀ i high op v (refused x) (Err y) s f = y ≡ x

-- an entry whose strength v was read: it runs, or it only leaves a source row
unfoldable pub entered : World → ℕ → Row → Bool → Effect → Float → Gathered → Res Gathered
entered w i row true e v g = contribute w i row e v g
entered w i row false e v g = note w i row (to_source e v false e.quantity false) g.mem >>= λ m. ok (record { mem = m; values = g.values })

-- how many source rows it has
abbrev pub entered_count : Bool → Effect → ℕ
entered_count true e = cond (e.penalty && has_penalty e.operator) (min e.quantity 9) 1
entered_count false e = 1
