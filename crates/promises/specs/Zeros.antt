-- What a refused result holds. Definitions only.
use Rattle.std.specs.Prelude.{◌≡◌, replicate}
use Rattle.laws.specs.Floats.{zero_f}
use Rattle.rules.specs.Columns.{zero_entry, zero_source}
use Rattle.rules.specs.Outcome.{Lent}
use Rattle.promises.specs.Result.{Result}

-- a result whose columns are as long as they were lent and all zeros, and whose counts are 0
pub record Empty (l : Lent) (r : Result) : Type 0 where
  pub counts : r.counts ≡ record { collected = 0; rows = 0; entries = 0; plain = 0; sources = 0 }
  pub states : r.states ≡ replicate 1024 (replicate 2 0)
  pub collected : r.collected ≡ replicate l.collected (replicate 14 0)
  pub collected_values : r.collected_values ≡ replicate l.collected_values zero_f
  pub rows : r.rows ≡ replicate l.rows (replicate 6 0)
  pub bases : r.bases ≡ replicate l.bases zero_f
  pub values : r.values ≡ replicate l.values zero_f
  pub entries : r.entries ≡ replicate l.entries zero_entry
  pub entry_values : r.entry_values ≡ replicate l.entry_values zero_f
  pub plain : r.plain ≡ replicate l.plain (replicate 2 0)
  pub sources : r.sources ≡ replicate l.sources zero_source
  pub source_floats : r.source_floats ≡ replicate l.source_floats (replicate 2 zero_f)
