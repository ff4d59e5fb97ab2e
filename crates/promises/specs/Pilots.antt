-- What a call for one of several pilots gives back, and what it does to the pool. 02, M-106. Definitions only.
use Rattle.std.specs.Prelude.{ℕ, ◌+◌, ◌≤◌, ◌<◌, ◌≡◌, List, [], Float, length, get_or, set}
use Rattle.std.proofs.Math.Option.{Option, none, some}
use Rattle.laws.specs.Columns.{within}
use Rattle.laws.specs.Lists.{span}
use Rattle.rules.specs.Answer.{Res, number, place, answer_of}
use Rattle.rules.specs.Columns.{Counts, counts_of, collected_column, collected_value_column, row_column, base_column, value_column, entry_column, entry_value_column, plain_column, source_column, source_float_column, state_column}
use Rattle.rules.specs.Files.{outcome_of}
use Rattle.rules.specs.Outcome.{Lent, Done, rooms_of}
use Rattle.rules.specs.Pool.{first_at, length_at, lent_to, pool_number, pool_rooms, pool_bad}
use Rattle.promises.specs.Result.{Result}

-- "one lent pool": every pilot's states, and the ten columns
pub record Pool : Type 0 where
  pub states : List (List (List ℕ))
  pub collected : List (List ℕ)
  pub collected_values : List Float
  pub rows : List (List ℕ)
  pub bases : List Float
  pub values : List Float
  pub entries : List (List ℕ)
  pub entry_values : List Float
  pub plain : List (List ℕ)
  pub sources : List (List ℕ)
  pub source_floats : List (List Float)

-- what is told of a call: number, place and counts
pub record Told : Type 0 where
  pub number : ℕ
  pub place : ℕ
  pub counts : Counts

-- how long the pool's columns are
abbrev pub lengths_of : Pool → Lent
lengths_of c =
    record {
      collected = length c.collected;
      collected_values = length c.collected_values;
      rows = length c.rows;
      bases = length c.bases;
      values = length c.values;
      entries = length c.entries;
      entry_values = length c.entry_values;
      plain = length c.plain;
      sources = length c.sources;
      source_floats = length c.source_floats;
    }

-- POOL's place in this pool, or none where POOL is not given
abbrev pub pool_place : Pool → List (List (List ℕ)) → ℕ → Option ℕ
pool_place c ss p = pool_bad (pool_rooms (lengths_of c)) ss p

-- what the definition gives for book k and fit f, with pilot p's stretches as room
abbrev pub pilot_outcome : List ℕ → List ℕ → List (List (List ℕ)) → ℕ → Res Done
pilot_outcome k f ss p = outcome_of k f (rooms_of (lent_to ss p))

-- "POOL writes nothing": with place x
pub record PoolRefused (x : ℕ) (before after : Pool) (r : Told) : Type 0 where
  pub by_number : r.number ≡ pool_number
  pub by_place : r.place ≡ x
  pub by-counts : r.counts ≡ record { collected = 0; rows = 0; entries = 0; plain = 0; sources = 0 }
  pub unchanged : after ≡ before

-- pilot p's stretches and states hold what the outcome o gives for them, and nothing else has changed
pub record PilotGiven (o : Res Done) (ss : List (List (List ℕ))) (p : ℕ) (before after : Pool) (r : Told) : Type 0 where
  pub by_number : r.number ≡ number (answer_of o)
  pub by_place : r.place ≡ place (answer_of o)
  pub by-counts : r.counts ≡ counts_of o
  pub as_long : lengths_of after ≡ lengths_of before
  pub by_states : after.states ≡ set before.states p (state_column o)
  pub by-collected : after.collected ≡ within (first_at ss p 1) (lent_to ss p).collected (collected_column o (lent_to ss p).collected) before.collected
  pub by_collected_values : after.collected_values ≡ within (first_at ss p 1) (lent_to ss p).collected_values (collected_value_column o (lent_to ss p).collected_values) before.collected_values
  pub by_rows : after.rows ≡ within (first_at ss p 2) (lent_to ss p).rows (row_column o (lent_to ss p).rows) before.rows
  pub by_bases : after.bases ≡ within (first_at ss p 2) (lent_to ss p).bases (base_column o (lent_to ss p).bases) before.bases
  pub by_values : after.values ≡ within (first_at ss p 2) (lent_to ss p).values (value_column o (lent_to ss p).values) before.values
  pub by_entries : after.entries ≡ within (first_at ss p 3) (lent_to ss p).entries (entry_column o (lent_to ss p).entries) before.entries
  pub by_entry_values : after.entry_values ≡ within (first_at ss p 3) (lent_to ss p).entry_values (entry_value_column o (lent_to ss p).entry_values) before.entry_values
  pub by-plain : after.plain ≡ within (first_at ss p 4) (lent_to ss p).plain (plain_column o (lent_to ss p).plain) before.plain
  pub by_sources : after.sources ≡ within (first_at ss p 5) (lent_to ss p).sources (source_column o (lent_to ss p).sources) before.sources
  pub by_source_floats : after.source_floats ≡ within (first_at ss p 5) (lent_to ss p).source_floats (source_float_column o (lent_to ss p).source_floats) before.source_floats

-- the call for pilot p with book k and fit f, whose pool was before and is after, told r: POOL where the stretches ss give it, or else
-- what the definition gives
pub record PilotMeets (k f : List ℕ) (ss : List (List (List ℕ))) (p : ℕ) (before after : Pool) (r : Told) : Type 0 where
  pub refused : (x : ℕ) → pool_place before ss p ≡ some x → PoolRefused x before after r
  pub given : pool_place before ss p ≡ none → PilotGiven (pilot_outcome k f ss p) ss p before after r

-- ---- the words of what is said of such calls

-- row i is one of pilot p's stretch of list l
pub record RowOf (ss : List (List (List ℕ))) (p l i : ℕ) : Type 0 where
  pub from : first_at ss p l ≤ i
  pub below : i < first_at ss p l + length_at ss p l

-- a pilot's part of a column of list l
abbrev pub part_of : {A : Type 0} → List (List (List ℕ)) → ℕ → ℕ → List A → List A
part_of ss p l c = span (first_at ss p l) (length_at ss p l) c

-- what pilot p has of a pool, with what it is told: a result of its own
abbrev pub pilot_result : List (List (List ℕ)) → ℕ → Pool → Told → Result
pilot_result ss p c r =
    record {
      number = r.number;
      place = r.place;
      counts = r.counts;
      states = get_or c.states p [];
      collected = part_of ss p 1 c.collected;
      collected_values = part_of ss p 1 c.collected_values;
      rows = part_of ss p 2 c.rows;
      bases = part_of ss p 2 c.bases;
      values = part_of ss p 2 c.values;
      entries = part_of ss p 3 c.entries;
      entry_values = part_of ss p 3 c.entry_values;
      plain = part_of ss p 4 c.plain;
      sources = part_of ss p 5 c.sources;
      source_floats = part_of ss p 5 c.source_floats;
    }

-- a column of list l that is as it was at every place but pilot p's rows
abbrev pub Kept : {A : Type 0} → List (List (List ℕ)) → ℕ → ℕ → List A → List A → Type 0
Kept {A} ss p l before after = (i : ℕ) → (RowOf ss p l i → ⊥) → (d : A) → get_or after i d ≡ get_or before i d

-- "writes nothing outside its pilot's stretches", and no other pilot's states
pub record KeptOutside (ss : List (List (List ℕ))) (p : ℕ) (before after : Pool) : Type 0 where
  pub as_long : lengths_of after ≡ lengths_of before
  pub states : (q : ℕ) → (q ≡ p → ⊥) → get_or after.states q [] ≡ get_or before.states q []
  pub collected : Kept ss p 1 before.collected after.collected
  pub collected_values : Kept ss p 1 before.collected_values after.collected_values
  pub rows : Kept ss p 2 before.rows after.rows
  pub bases : Kept ss p 2 before.bases after.bases
  pub values : Kept ss p 2 before.values after.values
  pub entries : Kept ss p 3 before.entries after.entries
  pub entry_values : Kept ss p 3 before.entry_values after.entry_values
  pub plain : Kept ss p 4 before.plain after.plain
  pub sources : Kept ss p 5 before.sources after.sources
  pub source_floats : Kept ss p 5 before.source_floats after.source_floats

-- any list of calls for numbers other than p, one after another, with any books and fits, and any stretches in which p's are its five
pub data Others (own : List (List ℕ)) (p : ℕ) : Pool → Pool → Type 0 where
  none_more : {before after : Pool} → after ≡ before → Others own p before after
  and_then : {before after : Pool} (k f : List ℕ) (ss : List (List (List ℕ))) (q : ℕ) (r : Told) (between : Pool)
      → get_or ss p [] ≡ own → (q ≡ p → ⊥) → PilotMeets k f ss q before between r → Others own p between after → Others own p before after
