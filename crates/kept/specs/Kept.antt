-- Columns that stay as they are, or are all zeros. Definitions only.
use Rattle.std.specs.Prelude.{ℕ, ◌≡◌, Bool, true, false, List, length, replicate}
use Rattle.laws.specs.Floats.{zero_f}
use Rattle.rules.specs.Columns.{zero_entry, zero_source}
use Rattle.run.specs.Filled.{Columns}

-- a column as it is, or n zeros
abbrev pub kept_or : {B : Type 0} → Bool → B → ℕ → List B → List B
kept_or true z n c = c
kept_or false z n c = replicate n z

pub record Kept (keep : Bool) (st : List (List ℕ)) (c : Columns) (st' : List (List ℕ)) (c' : Columns) : Type 0 where
  pub collected : c'.collected ≡ kept_or keep (replicate 14 0) (length c.collected) c.collected
  pub collected_values : c'.collected_values ≡ kept_or keep zero_f (length c.collected_values) c.collected_values
  pub rows : c'.rows ≡ kept_or keep (replicate 6 0) (length c.rows) c.rows
  pub bases : c'.bases ≡ kept_or keep zero_f (length c.bases) c.bases
  pub values : c'.values ≡ kept_or keep zero_f (length c.values) c.values
  pub entries : c'.entries ≡ kept_or keep zero_entry (length c.entries) c.entries
  pub entry_values : c'.entry_values ≡ kept_or keep zero_f (length c.entry_values) c.entry_values
  pub plain : c'.plain ≡ kept_or keep (replicate 2 0) (length c.plain) c.plain
  pub sources : c'.sources ≡ kept_or keep zero_source (length c.sources) c.sources
  pub source_floats : c'.source_floats ≡ kept_or keep (replicate 2 zero_f) (length c.source_floats) c.source_floats
  pub states : st' ≡ kept_or keep (replicate 2 0) 1024 st
