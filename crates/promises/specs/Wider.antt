-- Lists that were lent at least as long, and the rooms at least as large.
use Rattle.std.specs.Prelude.{◌≤◌}
use Rattle.rules.specs.Outcome.{Lent, Rooms}

pub record Wider (q r : Rooms) : Type 0 where
  pub collected : q.collected ≤ r.collected
  pub rows : q.rows ≤ r.rows
  pub entries : q.entries ≤ r.entries
  pub plain : q.plain ≤ r.plain
  pub sources : q.sources ≤ r.sources

pub record Longer (l m : Lent) : Type 0 where
  pub collected : l.collected ≤ m.collected
  pub collected_values : l.collected_values ≤ m.collected_values
  pub rows : l.rows ≤ m.rows
  pub bases : l.bases ≤ m.bases
  pub values : l.values ≤ m.values
  pub entries : l.entries ≤ m.entries
  pub entry_values : l.entry_values ≤ m.entry_values
  pub plain : l.plain ≤ m.plain
  pub sources : l.sources ≤ m.sources
  pub source_floats : l.source_floats ≤ m.source_floats
