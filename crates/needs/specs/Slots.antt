-- What a row needs, slot by slot: of each entry its source and its resistance, then min and max. Definitions only.
use Rattle.std.specs.Prelude.{ℕ, cond, List, [], ◌∷◌, ◌++◌, ℤ, pos, get_or, None, Some}
use Rattle.std.proofs.Math.Option.{Option, none, some}
use Rattle.laws.specs.Lists.{eq_z, flat}
use Rattle.rules.specs.Dispatch.{Row, Key}
use Rattle.rules.specs.Info.{get_dogma_attribute}
use Rattle.rules.specs.Sheet.{Book}
use Rattle.rules.specs.Value.{World, find_row}
use Rattle.rules.specs.declared.Effect.{Effect}
use Rattle.rules.specs.Ids.{OptionalId}
use Rattle.rules.specs.declared.Origin.{Origin}
use Rattle.rules.specs.declared.Origin.TheVariants as origin
use Rattle.reading.specs.Held.{no_row, index_of}

-- whether it runs or not
abbrev pub source_slot : Origin → Option Key
source_slot (origin.Buff b v) = none
source_slot (origin.Effect f o c a) = some (record { object = o; id = a })

-- the ship's attribute
abbrev pub ship_slot : OptionalId → Option Key
ship_slot None = none
ship_slot (Some a) = some (record { object = 0; id = a })

abbrev pub resistance_slot : OptionalId → Origin → Option Key
resistance_slot res (origin.Buff b v) = none
resistance_slot res (origin.Effect f o c a) = ship_slot res

-- 0 means none
abbrev pub limit_slot : ℕ → ℤ → Option Key
limit_slot o a = cond (eq_z a (pos 0)) none (some (record { object = o; id = a }))

abbrev pub entry_slots : Effect → List (Option Key)
entry_slots e = source_slot e.origin ∷ resistance_slot e.resistance e.origin ∷ []

abbrev pub limit_slots : Book → Row → List (Option Key)
limit_slots k r =
    let t = get_dogma_attribute k r.id in
    limit_slot r.object t.min_attribute_id ∷ limit_slot r.object t.max_attribute_id ∷ []

-- the keys of `Fresh.needs_of`, each in a slot of its own
unfoldable pub slots_of : Book → Row → List (Option Key)
slots_of k r = flat entry_slots r.entries ++ limit_slots k r

-- the row of a key, where there are both
abbrev pub row_in : List Row → Option Key → Option ℕ
row_in rs none = none
row_in rs (some a) = index_of (find_row a.object a.id 0 rs)

-- the row in slot s of row i
unfoldable pub need_at : World → ℕ → ℕ → Option ℕ
need_at w i s = row_in w.rows (get_or (slots_of w.book (get_or w.rows i no_row)) s none)
