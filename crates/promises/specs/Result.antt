-- What comes back of a run: number, place, counts, and every column as long as it was lent.
use Rattle.std.specs.Prelude.{ℕ, ◌≡◌, List, Float}
use Rattle.rules.specs.Answer.{Res, number, place, answer_of}
use Rattle.rules.specs.Columns.{Counts, counts_of, collected_column, collected_value_column, row_column, base_column, value_column, entry_column, entry_value_column, plain_column, source_column, source_float_column, state_column}
use Rattle.rules.specs.Outcome.{Lent, Done, outcome}

pub record Result : Type 0 where
  pub number : ℕ
  pub place : ℕ
  pub counts : Counts
  pub states : List (List ℕ)
  pub collected : List (List ℕ)
  pub collected_values : List Float
  pub rows : List (List ℕ)
  pub bases : List Float
  pub values : List Float
  pub entries : List (List ℕ)
  pub entry_values : List Float
  pub plain : List (List ℕ)
  pub sources : List (List ℕ)
  pub source_floats : List (List Float)

-- what comes back of an outcome, with these lists lent
abbrev pub result_for : Res Done → Lent → Result
result_for o l =
    record {
      number = number (answer_of o);
      place = place (answer_of o);
      counts = counts_of o;
      states = state_column o;
      collected = collected_column o l.collected;
      collected_values = collected_value_column o l.collected_values;
      rows = row_column o l.rows;
      bases = base_column o l.bases;
      values = value_column o l.values;
      entries = entry_column o l.entries;
      entry_values = entry_value_column o l.entry_values;
      plain = plain_column o l.plain;
      sources = source_column o l.sources;
      source_floats = source_float_column o l.source_floats;
    }

-- r is what the outcome o gives, with these lists lent
pub record MeetsFor (o : Res Done) (l : Lent) (r : Result) : Type 0 where
  pub by_number : r.number ≡ number (answer_of o)
  pub by_place : r.place ≡ place (answer_of o)
  pub by-counts : r.counts ≡ counts_of o
  pub by_states : r.states ≡ state_column o
  pub by-collected : r.collected ≡ collected_column o l.collected
  pub by_collected_values : r.collected_values ≡ collected_value_column o l.collected_values
  pub by_rows : r.rows ≡ row_column o l.rows
  pub by_bases : r.bases ≡ base_column o l.bases
  pub by_values : r.values ≡ value_column o l.values
  pub by_entries : r.entries ≡ entry_column o l.entries
  pub by_entry_values : r.entry_values ≡ entry_value_column o l.entry_values
  pub by-plain : r.plain ≡ plain_column o l.plain
  pub by_sources : r.sources ≡ source_column o l.sources
  pub by_source_floats : r.source_floats ≡ source_float_column o l.source_floats

-- r is what the definition gives for the bytes and the lists lent
abbrev pub Meets : List ℕ → Lent → Result → Type 0
Meets b l r = MeetsFor (outcome b l) l r
