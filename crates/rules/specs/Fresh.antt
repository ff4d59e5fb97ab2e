-- Values with no memory, and what leads back to itself. 01, "How much the contracts say": "Demand 3 is stated over the memoryless definition".
use Rattle.std.specs.Prelude.{ℕ, zero, suc, Bool, true, false, cond, List, [], ◌∷◌, ◌++◌, length, ℤ, pos, T, eqb, Float, None, Some}
use Rattle.std.proofs.Math.Option.{Option, none, some}
use Rattle.laws.specs.Lists.{eq_z, some?, keep, flat}
use Rattle.rules.specs.Answer.{Res, ok, refused, ◌>>=◌}
use Rattle.rules.specs.Sheet.{Book}
use Rattle.rules.specs.Info.{get_dogma_attribute}
use Rattle.rules.specs.Dispatch.{Row, Key, same_key}
use Rattle.rules.specs.Outcome.{blank}
use Rattle.rules.specs.Value.{World, Reader, find_row, calculate}
use Rattle.rules.specs.declared.Effect.{Effect}
use Rattle.rules.specs.declared.Origin.{Origin}
use Rattle.rules.specs.declared.Origin.TheVariants as origin
use Rattle.rules.specs.Ids.{OptionalId}
use Rattle.rules.specs.declared.Refusal.TheVariants.{Depth}

-- the same rows with nothing recorded
abbrev pub unrecorded : World → World
unrecorded w = record { book = w.book; rows = w.rows; states = w.states; recording = false; room = 0 }

-- a reader that looks at no memory and leaves it as it is
abbrev pub forgetful : (ℕ → ℤ → Res Float) → Reader
forgetful read o a m = read o a >>= λ v. ok (record { value = v; mem = m })

-- as `value_of`, but that each need is worked out afresh, d calculations deep
unfoldable pub fresh_to : World → ℕ → ℕ → ℤ → Res Float
fresh_to w zero o a = refused (Depth o)
fresh_to w (suc d) o a = elim (find_row o a 0 w.rows) [
  | none ↦ ok (get_dogma_attribute w.book a).default_value
  | some f ↦ (calculate (unrecorded w) (forgetful (fresh_to w d)) f.index f.row (blank w.rows) >>= λ r. ok r.value)
]

-- the value that the rules give with no memory: a calculation that meets no row twice is no deeper than there are rows
-- "Demand 3 is stated over the memoryless definition"
unfoldable pub fresh : World → ℕ → ℤ → Res Float
fresh w o a = fresh_to w (suc (length w.rows)) o a

-- ---- what a row's calculation needs: every source, running or not and recorded or not, its resistance, and its limits

-- "Min, max, resistance and usage chance 0 mean none"
abbrev pub limit : ℕ → ℤ → List Key
limit o a = cond (eq_z a (pos 0)) [] (record { object = o; id = a } ∷ [])

abbrev pub resistance_needs : OptionalId → List Key
resistance_needs None = []
resistance_needs (Some a) = record { object = 0; id = a } ∷ []

abbrev pub entry_needs : OptionalId → Origin → List Key
entry_needs res (origin.Buff b v) = []
entry_needs res (origin.Effect f o c a) = record { object = o; id = a } ∷ resistance_needs res

-- "through sources, clamps and resistances"
unfoldable pub needs_of : Book → Row → List Key
needs_of k r =
    let t = get_dogma_attribute k r.id in
    flat (λ e. entry_needs e.resistance e.origin) r.entries ++ (limit r.object t.min_attribute_id ++ limit r.object t.max_attribute_id)

-- what an attribute needs directly: an absent one nothing
unfoldable pub needs_at : World → Key → List Key
needs_at w a = flat (needs_of w.book) (keep (λ r. same_key (record { object = r.object; id = r.id }) a) w.rows)

-- a leads to b by one step or more
pub data Leads (w : World) : Key → Key → Type 0 where
  last : {a b : Key} → T (some? (same_key b) (needs_at w a)) → Leads w a b
  next : {a b c : Key} → T (some? (same_key b) (needs_at w a)) → Leads w b c → Leads w a c

-- an attribute that leads back to itself
abbrev pub LeadsBack : World → Key → Type 0
LeadsBack w a = Leads w a a
