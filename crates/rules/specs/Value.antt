-- Values: an attribute's value from its base and its entries, with the memory of those already valued. `pass_3.rs`; 01, "Values".
use Rattle.std.specs.Prelude.{ℕ, zero, suc, ◌-◌, min, Bool, true, false, ◌&&◌, ◌||◌, cond, List, [], ◌∷◌, ◌++◌, get_or, set, length, ℤ, pos, leb, ltb, eqb, Float, None, Some}
use Rattle.std.proofs.Math.Option.{Option, none, some}
use Rattle.std.specs.Float.Ieee.{lt}
use Rattle.laws.specs.Lists.{eq_z}
use Rattle.laws.specs.Floats.{zero_f}
use Rattle.rules.specs.Answer.{Res, ok, refused, ◌>>=◌}
use Rattle.rules.specs.Codes.{operators, same_operator}
use Rattle.rules.specs.Sheet.{Book}
use Rattle.rules.specs.Info.{get_dogma_attribute, high_is_good}
use Rattle.rules.specs.Number.{times, weight, number_at}
use Rattle.rules.specs.Operate.{Copy, Values, simplified, has_penalty, sorted, applied}
use Rattle.rules.specs.Item.{lowest_state, runs_at}
use Rattle.rules.specs.States.{States}
use Rattle.rules.specs.Dispatch.{Row}
use Rattle.rules.specs.declared.Effect.{Effect}
use Rattle.rules.specs.declared.Origin.{Origin}
use Rattle.rules.specs.declared.Origin.TheVariants as origin
use Rattle.rules.specs.Ids.{OptionalId}
use Rattle.rules.specs.declared.EffectOperator.{EffectOperator}
use Rattle.rules.specs.declared.EffectOperator.TheVariants.{PreAssign}
use Rattle.rules.specs.declared.ItemState.{ItemState}
use Rattle.rules.specs.declared.ItemState.TheVariants as state
use Rattle.rules.specs.declared.Source.{Source}
use Rattle.rules.specs.declared.SourceRef.{SourceRef}
use Rattle.rules.specs.declared.SourceRef.TheVariants.{Object, Buff}
use Rattle.rules.specs.declared.Refusal.TheVariants.{Room, Depth}

-- ---- source rows: `Source`

-- "its `from` an object or buff id"
abbrev pub from_of : Origin → SourceRef
from_of (origin.Effect e o c a) = Object o
from_of (origin.Buff b v) = Buff b

abbrev pub effect_id_of : Origin → OptionalId
effect_id_of (origin.Effect e o c a) = Some e
effect_id_of (origin.Buff b v) = None

abbrev pub source_attribute_id_of : Origin → OptionalId
source_attribute_id_of (origin.Effect e o c a) = Some a
source_attribute_id_of (origin.Buff b v) = None

-- the lowest state of its source that would do; "Passive for a buff's"
abbrev pub needed_state : Origin → ItemState
needed_state (origin.Effect e o c a) = lowest_state c
needed_state (origin.Buff b v) = state.Passive

-- `to_source`: v is the strength after resistance and before it is simplified
-- "A source row is one record by value with its two floats, value and penalty"
abbrev pub to_source : Effect → Float → Bool → ℕ → Bool → Source
to_source e v applied quantity penalised =
    record {
      «from» = from_of e.origin;
      effect_id = effect_id_of e.origin;
      source_attribute_id = source_attribute_id_of e.origin;
      operator = e.operator;
      value = v;
      quantity = quantity;
      penalised = penalised;
      penalty = zero_f;
      applied = applied;
      state = needed_state e.origin;
    }

abbrev pub with_penalty : Float → Source → Source
with_penalty p r =
    record {
      «from» = r.«from»;
      effect_id = r.effect_id;
      source_attribute_id = r.source_attribute_id;
      operator = r.operator;
      value = r.value;
      quantity = r.quantity;
      penalised = true;
      penalty = p;
      applied = r.applied;
      state = r.state;
    }

abbrev pub no_source : Source
no_source =
    record {
      «from» = Object 0;
      effect_id = None;
      source_attribute_id = None;
      operator = PreAssign;
      value = zero_f;
      quantity = 0;
      penalised = false;
      penalty = zero_f;
      applied = false;
      state = state.Passive;
    }

-- ---- what is fixed while values are calculated, and the memory

pub record World : Type 0 where
  pub book : Book
  pub rows : List Row
  pub states : List States
  pub recording : Bool
  pub room : ℕ  -- of list 5

-- "`Cell` and `RefCell` memory": of each row its value, none until its calculation starts, and its source rows
pub record Mem : Type 0 where
  pub values : List (Option Float)
  pub sources : List (List Source)
  pub used : ℕ  -- source rows so far, of all rows

-- what reading an attribute gives
pub record Read : Type 0 where
  pub value : Float
  pub mem : Mem

-- how an object's attribute is read
abbrev pub Reader : Type 0
Reader = ℕ → ℤ → Mem → Res Read

abbrev pub state_of : World → ℕ → ℕ
state_of w o = (get_or w.states o (record { state = 0; max_state = 0 })).state

abbrev pub own_sources : ℕ → Mem → List Source
own_sources i m = get_or m.sources i []

-- ---- gathering one operator's values

pub record Gathered : Type 0 where
  pub mem : Mem
  pub values : Values

abbrev pub nothing : Values
nothing = record { unpenalized = []; positive = []; negative = [] }

abbrev pub with_stack : Float → ℕ → Values → Values
with_stack x zero g = g
with_stack x (suc n) g =
    record { unpenalized = g.unpenalized ++ (record { value = x; quantity = suc n } ∷ []); positive = g.positive; negative = g.negative }

-- "Value 0.0, of either sign, is in the positive bucket"
abbrev pub with_copy : Bool → Copy → Values → Values
with_copy true x g = record { unpenalized = g.unpenalized; positive = g.positive; negative = g.negative ++ (x ∷ []) }
with_copy false x g = record { unpenalized = g.unpenalized; positive = g.positive ++ (x ∷ []); negative = g.negative }

-- the calculation of row i of the world, which is row
module _ (w : World) (i : ℕ) (row : Row) where
  -- 7 ROOM, list 5: a source row takes room when it arises
  -- "A row or entry takes room when it arises"; "entries and source rows by row, then arrival"
  unfoldable pub note : Source → Mem → Res Mem
  note r m = elim w.recording [
    | false ↦ ok m
    | true ↦ elim (ltb m.used w.room) [
      | false ↦ refused (Room 5)
      | true ↦ ok (record { values = m.values; sources = set m.sources i (own_sources i m ++ (r ∷ [])); used = suc m.used })
    ]
  ]

  -- n copies of a penalised value x, each with its own source row; the row's penalty is set when the operator is applied
  -- "A quantity keeps at most 8 copies"
  unfoldable pub copies : ℕ → Source → Float → Gathered → Res Gathered
  copies zero r x g = ok g
  copies (suc n) r x g =
      note r g.mem >>= λ m.
      copies n r x (record { mem = m; values = with_copy (lt x zero_f) (record { value = x; source = length (own_sources i g.mem) }) g.values })

  -- "A quantity keeps at most 8 copies; the rest is one source row with penalty 0.0"
  unfoldable pub penalised : Effect → Float → Float → Gathered → Res Gathered
  penalised e v x g = do
    h ← copies (min e.quantity 8) (to_source e v true 1 true) x g
    elim (e.quantity - 8) [
      | zero ↦ ok h
      | suc n ↦ (note (to_source e v true (suc n) true) h.mem >>= λ m. ok (record { mem = m; values = h.values }))
    ]

  unfoldable pub unpenalised : Effect → Float → Float → Gathered → Res Gathered
  unpenalised e v x g = do
    m ← note (to_source e v true e.quantity false) g.mem
    ok (record { mem = m; values = with_stack x e.quantity g.values })

  -- an entry that runs, of strength v
  unfoldable pub contribute : Effect → Float → Gathered → Res Gathered
  contribute e v g = do
    x ← number_at row.object (simplified e.operator v)
    elim (e.penalty && has_penalty e.operator) [ true ↦ penalised e v x g | false ↦ unpenalised e v x g ]

  module _ (read : Reader) where
    -- by the ship's resistance, where one is named; "through sources, clamps and resistances"
    unfoldable pub resisted : OptionalId → Read → Res Read
    resisted None r = ok r
    resisted (Some a) r = do
      q ← read 0 a r.mem
      v ← number_at row.object (times r.value q.value)
      ok (record { value = v; mem = q.mem })

    -- an entry's strength is read off its source, or stands in the buff; one that does not run is read only where recorded
    -- "A buff entry carries its value inside the origin"
    unfoldable pub gather_from : Effect → Origin → Gathered → Res Gathered
    gather_from e (origin.Buff b v) g = contribute e v g
    gather_from e (origin.Effect f source c a) g = elim (runs_at c (state_of w source) || w.recording) [
      | false ↦ ok g
      | true ↦ (do
        r ← read source a g.mem
        s ← resisted e.resistance r
        elim (runs_at c (state_of w source)) [
          | true ↦ contribute e s.value (record { mem = s.mem; values = g.values })
          | false ↦ (note (to_source e s.value false e.quantity false) s.mem >>= λ m. ok (record { mem = m; values = g.values }))
        ])
    ]

    -- "Collect all the values for this operator"
    unfoldable pub gather : EffectOperator → List Effect → Gathered → Res Gathered
    gather op [] g = ok g
    gather op (e ∷ r) g = elim (same_operator e.operator op) [
      | false ↦ gather op r g
      | true ↦ (gather_from e e.origin g >>= λ h. gather op r h)
    ]

-- ---- applying it

-- each copy's source row gets the weight of the copy's position as its penalty
-- "position p from 0 to 7 weighs 0.8691199808003974 to the power p times p, later ones 0.0"
unfoldable pub marked : ℕ → List Copy → List Source → List Source
marked p [] own = own
marked p (x ∷ r) own = marked (suc p) r (set own x.source (with_penalty (weight p) (get_or own x.source no_source)))

abbrev pub with_own : ℕ → List Source → Mem → Mem
with_own i own m = record { values = m.values; sources = set m.sources i own; used = m.used }

abbrev pub marked_by : ℕ → Gathered → Mem
marked_by i g =
    with_own i (marked 0 (sorted g.values.negative) (marked 0 (sorted g.values.positive) (own_sources i g.mem))) g.mem

-- "Operators in the order of `EffectOperator`"; an operator's sources are all read before it is applied
unfoldable pub operate : World → ℕ → Row → Reader → List EffectOperator → Read → Res Read
operate w i row read [] a = ok a
operate w i row read (op ∷ ops) a = do
  g ← gather w i row read op row.entries (record { mem = a.mem; values = nothing })
  v ← number_at row.object (applied (high_is_good (get_dogma_attribute w.book row.id)) op a.value g.values)
  operate w i row read ops (record { value = v; mem = marked_by i g })

-- "Clamp: equal values .. keep the current one"
abbrev pub at_least : Float → Float → Float
at_least v low = cond (lt v low) low v

-- "equal values, zeros of unlike sign too, keep the current one"
abbrev pub at_most : Float → Float → Float
at_most v high = cond (lt high v) high v

-- a limit is read off the same object; 0 means none; "Min clamp, then max"; "Min, max, resistance and usage chance 0 mean none"
unfoldable pub clamped : ℕ → Reader → (Float → Float → Float) → ℤ → Read → Res Read
clamped o read clamp a r = elim (eq_z a (pos 0)) [
  | true ↦ ok r
  | false ↦ (read o a r.mem >>= λ q. ok (record { value = clamp r.value q.value; mem = q.mem }))
]

-- "An attribute under calculation reads as its base value"
abbrev pub set_value : ℕ → Float → Mem → Mem
set_value i v m = record { values = set m.values i (some v); sources = m.sources; used = m.used }

-- `calculate_value`: "An attribute under calculation reads as its base value"; "Min clamp, then max"
unfoldable pub calculate : World → Reader → ℕ → Row → Mem → Res Read
calculate w read i row m = do
  let attribute = get_dogma_attribute w.book row.id
  a ← operate w i row read operators (record { value = row.base; mem = set_value i row.base m })
  b ← clamped row.object read at_least attribute.min_attribute_id a
  c ← clamped row.object read at_most attribute.max_attribute_id b
  ok (record { value = c.value; mem = set_value i c.value c.mem })

-- ---- `calculated_value`: an attribute that is absent, has a value, or is to be calculated

pub record Found : Type 0 where
  pub index : ℕ
  pub row : Row

unfoldable pub find_row : ℕ → ℤ → ℕ → List Row → Option Found
find_row o a i [] = none
find_row o a i (r ∷ rest) = elim (eqb r.object o && eq_z r.id a) [ true ↦ some (record { index = i; row = r }) | false ↦ find_row o a (suc i) rest ]

-- "absent or already valued attributes start nothing"
unfoldable pub calculated_value : World → (ℕ → Row → Mem → Res Read) → Reader
calculated_value w start o a m = elim (find_row o a 0 w.rows) [
  | none ↦ ok (record { value = (get_dogma_attribute w.book a).default_value; mem = m })
  | some f ↦
      elim (get_or m.values f.index none) [ some v ↦ ok (record { value = v; mem = m }) | none ↦ start f.index f.row m ]
]

-- 9 DEPTH: d calculations may still start one inside another; "a calculation starts deeper than the depth"; "what it needs is one deeper"
unfoldable pub value_of : World → ℕ → Reader
value_of w zero o a m = calculated_value w (λ i row m'. refused (Depth o)) o a m
value_of w (suc d) o a m = calculated_value w (λ i row m'. calculate w (value_of w d) i row m') o a m
