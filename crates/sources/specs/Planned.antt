-- How many source rows each row of list 2 gets when they are recorded. Definitions only.
use Rattle.std.specs.Prelude.{ℕ, ◌+◌, ◌<◌, min, ◌≡◌, Bool, true, ◌&&◌, cond, List, [], ◌∷◌, map, ℤ, length, get_or}
use Rattle.std.proofs.Math.Option.{none}
use Rattle.laws.specs.Lists.{total}
use Rattle.rules.specs.Answer.{ok}
use Rattle.rules.specs.Codes.{same_operator}
use Rattle.rules.specs.Dispatch.{Row}
use Rattle.rules.specs.Item.{runs_at}
use Rattle.rules.specs.Operate.{has_penalty}
use Rattle.rules.specs.Value.{World, Mem, Read, Reader, state_of, own_sources}
use Rattle.rules.specs.declared.Effect.{Effect}
use Rattle.rules.specs.declared.EffectOperator.{EffectOperator}
use Rattle.rules.specs.declared.Origin.{Origin}
use Rattle.rules.specs.declared.Origin.TheVariants as origin

-- an effect runs by its source's state; a buff always does
abbrev pub runs_in : World → Origin → Bool
runs_in w (origin.Effect e o c a) = runs_at c (state_of w o)
runs_in w (origin.Buff b v) = true

-- a penalised entry that runs has at most eight copies and the rest as one; any other entry has one source row
abbrev pub planned_if : Bool → Effect → ℕ
planned_if running e = cond (running && (e.penalty && has_penalty e.operator)) (min e.quantity 9) 1

abbrev pub planned_of : World → Effect → ℕ
planned_of w e = planned_if (runs_in w e.origin) e

-- of each row
unfoldable pub counts_of : World → List ℕ
counts_of w = map (λ (r : Row). cond w.recording (total (map (planned_of w) r.entries)) 0) w.rows

-- of the entries of one operator, and of some operators in turn
abbrev pub planned_for : World → EffectOperator → List Effect → ℕ
planned_for w op [] = 0
planned_for w op (e ∷ r) = cond (same_operator e.operator op) (planned_of w e) 0 + planned_for w op r

abbrev pub planned_by : World → List EffectOperator → List Effect → ℕ
planned_by w [] es = 0
planned_by w (op ∷ ops) es = planned_for w op es + planned_by w ops es

-- the calculation of row i has started
pub record Started (i : ℕ) (m : Mem) : Type 0 where
  pub valued : get_or m.values i none ≡ none → ⊥
  pub there : i < length m.sources

-- row i has n source rows more
pub record Grown (i : ℕ) (m m' : Mem) (n : ℕ) : Type 0 where
  pub started : Started i m'
  pub more : length (own_sources i m') ≡ length (own_sources i m) + n

-- reading gives row i no source row, once its calculation has started
abbrev pub Leaves : ℕ → Reader → Type 0
Leaves i read = (o : ℕ) (a : ℤ) (m : Mem) (q : Read) → Started i m → read o a m ≡ ok q → Grown i m q.mem 0
