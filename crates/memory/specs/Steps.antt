-- The steps of a calculation, each by a name of its own. Definitions only.
use Rattle.std.specs.Prelude.{ℕ, false, List, pos, Float, get_or, None}
use Rattle.laws.specs.Floats.{zero_f}
use Rattle.rules.specs.Answer.{Res, ok, ◌>>=◌}
use Rattle.rules.specs.Codes.{operators}
use Rattle.rules.specs.Dispatch.{Row}
use Rattle.rules.specs.Info.{get_dogma_attribute}
use Rattle.rules.specs.Value.{World, Mem, Read, Reader, resisted, operate, clamped, at_least, at_most}
use Rattle.rules.specs.declared.Effect.{Effect}
use Rattle.rules.specs.declared.EffectOperator.TheVariants.{PreAssign}
use Rattle.rules.specs.declared.Origin.{Origin}
use Rattle.rules.specs.declared.Origin.TheVariants as origin
use Rattle.reading.specs.Held.{no_row}

-- row i
abbrev pub row_at : World → ℕ → Row
row_at w i = get_or w.rows i no_row

-- its entry k
abbrev pub no_entry : Effect
no_entry = record { origin = origin.Buff (pos 0) zero_f; operator = PreAssign; penalty = false; quantity = 0; resistance = None; number = 0 }

abbrev pub entry_at : World → ℕ → ℕ → Effect
entry_at w i k = get_or (row_at w i).entries k no_entry

module _ (w : World) (read : Reader) (i : ℕ) (row : Row) where
  -- an entry's strength: it stands in the buff, or is read off its source and held against the ship's resistance
  unfoldable pub strength_of : Effect → Origin → Mem → Res Read
  strength_of e (origin.Buff b v) m = ok (record { value = v; mem = m })
  strength_of e (origin.Effect f source c a) m = read source a m >>= λ r. resisted w i row read e.resistance r

  -- the operators, then the limits
  unfoldable pub evaluation : Mem → Res Read
  evaluation m =
      operate w i row read operators (record { value = row.base; mem = m })
      >>= λ a. clamped row.object read at_least (get_dogma_attribute w.book row.id).min_attribute_id a
      >>= λ b. clamped row.object read at_most (get_dogma_attribute w.book row.id).max_attribute_id b
