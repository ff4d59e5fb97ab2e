-- What every lent column holds after a run, by the length that was lent. 01, "What comes back"; after a refusal every list is empty,
-- so each column is all zeros. What may be absent has a 0 or 1 beside it, and is 0 when absent; a signed number is its 32 bits.
use Rattle.std.specs.Prelude.{ℕ, ◌+◌, Bool, true, false, List, [], ◌∷◌, ◌++◌, map, length, replicate, Float, None, Some}
use Rattle.std.proofs.Math.Option.{get_or}
use Rattle.laws.specs.Lists.{flat}
use Rattle.laws.specs.Floats.{zero_f}
use Rattle.laws.specs.Columns.{column}
use Rattle.rules.specs.Answer.{Res, ok, refused}
use Rattle.rules.specs.Bytes.{bits}
use Rattle.rules.specs.Codes.{category_code, operator_code, state_code}
use Rattle.rules.specs.States.{States}
use Rattle.rules.specs.Collect.{Plain}
use Rattle.rules.specs.Dispatch.{Row}
use Rattle.rules.specs.Outcome.{Done}
use Rattle.rules.specs.declared.Pass2Effect.{Pass2Effect}
use Rattle.rules.specs.declared.Effect.{Effect}
use Rattle.rules.specs.declared.Source.{Source}
use Rattle.rules.specs.declared.SourceRef.{SourceRef}
use Rattle.rules.specs.declared.SourceRef.TheVariants as from
use Rattle.rules.specs.declared.Origin.{Origin}
use Rattle.rules.specs.declared.Origin.TheVariants as origin
use Rattle.rules.specs.declared.Modifier.{Modifier}
use Rattle.rules.specs.declared.Modifier.TheVariants.{LocationRequiredSkillModifier, LocationGroupModifier, LocationModifier, OwnerRequiredSkillModifier, ItemModifier}
use Rattle.rules.specs.Ids.{OptionalId}

-- "yes is 1"
abbrev pub yes1 : Bool → ℕ
yes1 true = 1
yes1 false = 0

-- "what may be absent has a 0 or 1 beside it, and is 0 when absent"
abbrev pub optional_numbers : OptionalId → List ℕ
optional_numbers None = 0 ∷ 0 ∷ []
optional_numbers (Some a) = 1 ∷ bits a ∷ []

-- 0 effect or 1 buff, effect id, source, source category, modifying attribute, buff id; and the buff's value beside them
-- "Codes are the sheet's, objects go by number"
abbrev pub origin_numbers : Origin → List ℕ
origin_numbers (origin.Effect e o c a) = 0 ∷ bits e ∷ o ∷ category_code c ∷ bits a ∷ 0 ∷ []
origin_numbers (origin.Buff b v) = 1 ∷ 0 ∷ 0 ∷ 0 ∷ 0 ∷ bits b ∷ []

-- "A buff entry carries its value inside the origin"
abbrev pub origin_value : Origin → Float
origin_value (origin.Effect e o c a) = zero_f
origin_value (origin.Buff b v) = v

-- the func code, and the skill or group; "func 0 to 4 in the order of `Modifier`"
abbrev pub modifier_numbers : Modifier → List ℕ
modifier_numbers (LocationRequiredSkillModifier s) = 0 ∷ bits s ∷ []
modifier_numbers (LocationGroupModifier g) = 1 ∷ bits g ∷ []
modifier_numbers LocationModifier = 2 ∷ 0 ∷ []
modifier_numbers (OwnerRequiredSkillModifier s) = 3 ∷ bits s ∷ []
modifier_numbers ItemModifier = 4 ∷ 0 ∷ []

-- list 1: `Pass2Effect`; "List 1 holds the fields of `Pass2Effect`"
abbrev pub collected_numbers : Pass2Effect → List ℕ
collected_numbers t =
    origin_numbers t.origin ++ modifier_numbers t.modifier
    ++ (operator_code t.operator ∷ t.source_quantity ∷ t.target ∷ bits t.target_attribute_id ∷ optional_numbers t.resistance)

-- list 2: object, attribute, first and count in 3, first and count in 5: "Each first is the sum of the counts before it"
abbrev pub rows_numbers : ℕ → ℕ → List Row → List (List Source) → List (List ℕ)
rows_numbers e s [] qs = []
rows_numbers e s (r ∷ rs) [] = (r.object ∷ bits r.id ∷ e ∷ length r.entries ∷ s ∷ 0 ∷ []) ∷ rows_numbers (e + length r.entries) s rs []
rows_numbers e s (r ∷ rs) (q ∷ qs) =
    (r.object ∷ bits r.id ∷ e ∷ length r.entries ∷ s ∷ length q ∷ []) ∷ rows_numbers (e + length r.entries) (s + length q) rs qs

-- list 3: `Effect`; "3 those of `Effect`"
abbrev pub entry_numbers : Effect → List ℕ
entry_numbers e =
    origin_numbers e.origin
    ++ (operator_code e.operator ∷ yes1 e.penalty ∷ e.quantity ∷ (optional_numbers e.resistance ++ (e.number ∷ [])))

-- an entry of zeros
abbrev pub zero_entry : List ℕ
zero_entry = replicate 12 0

-- list 4; "4 object and effect id"
abbrev pub plain_numbers : Plain → List ℕ
plain_numbers p = p.object ∷ bits p.id ∷ []

-- list 5: `Source`, "its `from` an object or buff id"
abbrev pub from_numbers : SourceRef → List ℕ
from_numbers (from.Object o) = 0 ∷ o ∷ []
from_numbers (from.Buff b) = 1 ∷ bits b ∷ []

-- "5 those of `Source`"
abbrev pub source_numbers : Source → List ℕ
source_numbers r =
    from_numbers r.«from» ++ optional_numbers r.effect_id ++ optional_numbers r.source_attribute_id
    ++ (operator_code r.operator ∷ r.quantity ∷ yes1 r.penalised ∷ yes1 r.applied ∷ state_code r.state ∷ [])

-- a source row of zeros
abbrev pub zero_source : List ℕ
zero_source = replicate 11 0

-- "one record by value with its two floats, value and penalty"
abbrev pub source_floats : Source → List Float
source_floats r = r.value ∷ r.penalty ∷ []

-- ---- the lists of an outcome

-- "After a refusal all lists, states and counts are zero"; "1 and 4 by arrival"
abbrev pub collected_list : Res Done → List Pass2Effect
collected_list (ok d) = d.collected
collected_list (refused r) = []

-- "1 and 4 by arrival"
abbrev pub plain_list : Res Done → List Plain
plain_list (ok d) = d.plain
plain_list (refused r) = []

-- "Rows run by object, then attribute id"
abbrev pub row_list : Res Done → List Row
row_list (ok d) = d.rows
row_list (refused r) = []

-- "2 holds object, attribute, base, value"
abbrev pub value_list : Res Done → List Float
value_list (ok d) = map (λ v. get_or v zero_f) d.values
value_list (refused r) = []

-- "entries and source rows by row, then arrival"
abbrev pub sources_by_row : Res Done → List (List Source)
sources_by_row (ok d) = d.sources
sources_by_row (refused r) = []

-- "objects' state and max state are fixed room"
abbrev pub state_list : Res Done → List States
state_list (ok d) = d.states
state_list (refused r) = []

-- "entries and source rows by row, then arrival"
abbrev pub entry_list : Res Done → List Effect
entry_list r = flat (λ x. x.entries) (row_list r)

-- "entries and source rows by row, then arrival"
abbrev pub source_list : Res Done → List Source
source_list r = flat (λ x. x) (sources_by_row r)

-- "Each list's count is returned"
pub record Counts : Type 0 where
  pub collected : ℕ
  pub rows : ℕ
  pub entries : ℕ
  pub plain : ℕ
  pub sources : ℕ

-- "Each list's count is returned"
abbrev pub counts_of : Res Done → Counts
counts_of r =
    record {
      collected = length (collected_list r);
      rows = length (row_list r);
      entries = length (entry_list r);
      plain = length (plain_list r);
      sources = length (source_list r);
    }

-- ---- the columns, n long; "Unused ends are zero"

-- "1 collected effects"
unfoldable pub collected_column : Res Done → ℕ → List (List ℕ)
collected_column r n = column collected_numbers (replicate 14 0) (collected_list r) n

unfoldable pub collected_value_column : Res Done → ℕ → List Float
collected_value_column r n = column (λ t. origin_value t.origin) zero_f (collected_list r) n

-- "2 attribute rows"
unfoldable pub row_column : Res Done → ℕ → List (List ℕ)
row_column r n = column (λ x. x) (replicate 6 0) (rows_numbers 0 0 (row_list r) (sources_by_row r)) n

-- "2 holds object, attribute, base, value"
unfoldable pub base_column : Res Done → ℕ → List Float
base_column r n = column (λ x. x.base) zero_f (row_list r) n

-- "2 holds object, attribute, base, value"
unfoldable pub value_column : Res Done → ℕ → List Float
value_column r n = column (λ x. x) zero_f (value_list r) n

-- "3 entries"
unfoldable pub entry_column : Res Done → ℕ → List (List ℕ)
entry_column r n = column entry_numbers zero_entry (entry_list r) n

unfoldable pub entry_value_column : Res Done → ℕ → List Float
entry_value_column r n = column (λ e. origin_value e.origin) zero_f (entry_list r) n

-- "4 plain effects"
unfoldable pub plain_column : Res Done → ℕ → List (List ℕ)
plain_column r n = column plain_numbers (replicate 2 0) (plain_list r) n

-- "5 source rows"
unfoldable pub source_column : Res Done → ℕ → List (List ℕ)
source_column r n = column source_numbers zero_source (source_list r) n

unfoldable pub source_float_column : Res Done → ℕ → List (List Float)
source_float_column r n = column source_floats (replicate 2 zero_f) (source_list r) n

-- "objects' state and max state are fixed room"
unfoldable pub state_column : Res Done → List (List ℕ)
state_column r = column (λ s. s.state ∷ s.max_state ∷ []) (replicate 2 0) (state_list r) 1024
