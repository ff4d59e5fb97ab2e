-- A pilot's call: the pool that is lent, where its rows lie, and what is told of it. Definitions only.
use Rattle.std.specs.Prelude.{ℕ, ◌≡◌, ◌≤◌, ◌<◌, List, Result, Ok, Err}
use Rattle.std.proofs.Math.Option.{none, some}
use Rattle.rules.specs.Outcome.{Lent}
use Rattle.rules.specs.Pool.{pool_number, pool_rooms, pool_bad, stretch_of}
use Rattle.promises.specs.Pilots.{Pool, Told}
use Rattle.run.specs.Filled.{Columns}
use Rattle.calculate.specs.declared.Outcome.{Outcome}
use Rattle.pool.specs.Pooled.{start_of, part_end}
use Rattle.pool.specs.declared.BadPool.{BadPool}
use Rattle.pilots.specs.declared.lending.Lengths.{Lengths}
use Rattle.pilots.specs.declared.lending.Parts.{Parts}

-- every pilot's states and the ten columns
abbrev pub pool_of : List (List (List ℕ)) → Columns → Pool
pool_of st c =
    record {
      states = st;
      collected = c.collected;
      collected_values = c.collected_values;
      rows = c.rows;
      bases = c.bases;
      values = c.values;
      entries = c.entries;
      entry_values = c.entry_values;
      plain = c.plain;
      sources = c.sources;
      source_floats = c.source_floats;
    }

abbrev pub told_of : Outcome → Told
told_of r =
    record {
      number = r.number;
      place = r.place;
      counts = record { collected = r.collected; rows = r.rows; entries = r.entries; plain = r.plain; sources = r.sources };
    }

abbrev pub lengths : Lengths → Lent
lengths n =
    record {
      collected = n.collected;
      collected_values = n.collected_values;
      rows = n.rows;
      bases = n.bases;
      values = n.values;
      entries = n.entries;
      entry_values = n.entry_values;
      plain = n.plain;
      sources = n.sources;
      source_floats = n.source_values;
    }

-- pilot p's rows of each list begin and end here; an empty stretch's are lent from 0
abbrev pub parts_at : List (List (List ℕ)) → ℕ → Parts
parts_at ss p =
    record {
      collected = start_of (stretch_of ss p 1);
      collected_end = part_end (stretch_of ss p 1);
      rows = start_of (stretch_of ss p 2);
      rows_end = part_end (stretch_of ss p 2);
      entries = start_of (stretch_of ss p 3);
      entries_end = part_end (stretch_of ss p 3);
      plain = start_of (stretch_of ss p 4);
      plain_end = part_end (stretch_of ss p 4);
      sources = start_of (stretch_of ss p 5);
      sources_end = part_end (stretch_of ss p 5);
    }

-- what is lent to pilot p of a pool with columns so long: POOL's place, or where its rows lie
unfoldable pub lending_of : List (List (List ℕ)) → ℕ → Lent → Result Parts BadPool
lending_of ss p l = elim (pool_bad (pool_rooms l) ss p) [ some x ↦ Err (record { place = x }) | none ↦ Ok (parts_at ss p) ]

-- every part lies in its column
pub record Inside (at : Parts) (l : Lent) : Type 0 where
  pub collected : (at.collected ≤ at.collected_end) × (at.collected_end ≤ l.collected)
  pub collected_values : (at.collected ≤ at.collected_end) × (at.collected_end ≤ l.collected_values)
  pub rows : (at.rows ≤ at.rows_end) × (at.rows_end ≤ l.rows)
  pub bases : (at.rows ≤ at.rows_end) × (at.rows_end ≤ l.bases)
  pub values : (at.rows ≤ at.rows_end) × (at.rows_end ≤ l.values)
  pub entries : (at.entries ≤ at.entries_end) × (at.entries_end ≤ l.entries)
  pub entry_values : (at.entries ≤ at.entries_end) × (at.entries_end ≤ l.entry_values)
  pub plain : (at.plain ≤ at.plain_end) × (at.plain_end ≤ l.plain)
  pub sources : (at.sources ≤ at.sources_end) × (at.sources_end ≤ l.sources)
  pub source_floats : (at.sources ≤ at.sources_end) × (at.sources_end ≤ l.source_floats)

-- what is lent lies in its columns, and the number is a pilot's
pub record LentParts (p : ℕ) (l : Lent) (at : Parts) : Type 0 where
  pub pilot : p < 16
  pub inside : Inside at l

-- "12 POOL", with this place and no rows
pub record PoolTold (x : ℕ) (r : Outcome) : Type 0 where
  pub number : r.number ≡ pool_number
  pub place : r.place ≡ x
  pub collected : r.collected ≡ 0
  pub rows : r.rows ≡ 0
  pub entries : r.entries ≡ 0
  pub plain : r.plain ≡ 0
  pub sources : r.sources ≡ 0
