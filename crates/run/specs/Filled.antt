-- What a run leaves in the lent columns before their ends are cleared. Definitions only.
use Rattle.std.specs.Prelude.{ℕ, ◌≤◌, ◌≡◌, List, [], ◌∷◌, map, Float, length, replicate, Result, Ok, Err}
use Rattle.std.proofs.Math.Option.{Option, get_or}
use denote.Triple.Both.{Both}
use Rattle.columns.specs.Lending.{LentColumn}
use Rattle.laws.specs.Columns.{Col, column}
use Rattle.laws.specs.Floats.{zero_f}
use Rattle.laws.specs.Lists.{flat}
use Rattle.rules.specs.Answer.{Res, ok, refused}
use Rattle.rules.specs.Columns.{collected_numbers, rows_numbers, entry_numbers, origin_value, plain_numbers, source_numbers, source_floats}
use Rattle.rules.specs.Outcome.{Lent, Rooms, Done, run}
use Rattle.rules.specs.Sheet.{Book, Fit}
use Rattle.rules.specs.declared.Refusal.{Refusal}
use Rattle.rules.specs.declared.Refusal.TheVariants.{Shape}
use Rattle.shape.specs.Shaped.{Shaped}
use Rattle.clear.specs.declared.KeptCounts.{KeptCounts}
use Rattle.run.specs.declared.lists.ListCounts as lists

-- the ten lent columns
pub record Columns : Type 0 where
  pub collected : List (List ℕ)
  pub collected_values : List Float
  pub rows : List (List ℕ)
  pub bases : List Float
  pub values : List Float
  pub entries : List (List ℕ)
  pub entry_values : List Float
  pub plain : List (List ℕ)
  pub sources : List (List ℕ)
  pub source_floats : List (List Float)

abbrev pub columns : List (List ℕ) → List Float → List (List ℕ) → List Float → List Float → List (List ℕ) → List Float → List (List ℕ) → List (List ℕ) → List (List Float) → Columns
columns c v r b x e w p s g =
    record {
      collected = c;
      collected_values = v;
      rows = r;
      bases = b;
      values = x;
      entries = e;
      entry_values = w;
      plain = p;
      sources = s;
      source_floats = g;
    }

-- as they were lent, and as they come back
abbrev pub lent_columns : LentColumn (List ℕ) → LentColumn Float → LentColumn (List ℕ) → LentColumn Float → LentColumn Float → LentColumn (List ℕ) → LentColumn Float → LentColumn (List ℕ) → LentColumn (List ℕ) → LentColumn (List Float) → Both Columns Columns
lent_columns c v r b x e w p s g =
    record {
      entry = columns c.entry.now v.entry.now r.entry.now b.entry.now x.entry.now e.entry.now w.entry.now p.entry.now s.entry.now g.entry.now;
      exit = columns c.exit.now v.exit.now r.exit.now b.exit.now x.exit.now e.exit.now w.exit.now p.exit.now s.exit.now g.exit.now;
    }

-- the rooms that are lent
abbrev pub lent_of : Columns → Lent
lent_of c =
    record {
      collected = length c.collected;
      collected_values = length c.collected_values;
      rows = length c.rows;
      bases = length c.bases;
      values = length c.values;
      entries = length c.entries;
      entry_values = length c.entry_values;
      plain = length c.plain;
      sources = length c.sources;
      source_floats = length c.source_floats;
    }

-- the columns c, which were c₀, and the states hold what is done, counted
pub record Filled (d : Done) (n : KeptCounts) (st : List (List ℕ)) (c₀ c : Columns) : Type 0 where
  pub objects : n.objects ≡ length d.states
  pub few : length d.states ≤ 1024
  pub n_collected : n.collected ≡ length d.collected
  pub n_rows : n.rows ≡ length d.rows
  pub n_values : n.rows ≡ length d.values
  pub n_entries : n.entries ≡ length (flat (λ x. x.entries) d.rows)
  pub n_plain : n.plain ≡ length d.plain
  pub n_sources : n.sources ≡ length (flat (λ x. x) d.sources)
  pub states : st ≡ column (λ s. s.state ∷ s.max_state ∷ []) (replicate 2 0) d.states 1024
  pub collected : Col collected_numbers d.collected c₀.collected c.collected
  pub collected_values : Col (λ t. origin_value t.origin) d.collected c₀.collected_values c.collected_values
  pub rows : Col (λ x. x) (rows_numbers 0 0 d.rows d.sources) c₀.rows c.rows
  pub bases : Col (λ x. x.base) d.rows c₀.bases c.bases
  pub values : Col (λ x. x) (map (λ (v : Option Float). get_or v zero_f) d.values) c₀.values c.values
  pub entries : Col entry_numbers (flat (λ x. x.entries) d.rows) c₀.entries c.entries
  pub entry_values : Col (λ e. origin_value e.origin) (flat (λ x. x.entries) d.rows) c₀.entry_values c.entry_values
  pub plain : Col plain_numbers d.plain c₀.plain c.plain
  pub sources : Col source_numbers (flat (λ x. x) d.sources) c₀.sources c.sources
  pub source_floats : Col source_floats (flat (λ x. x) d.sources) c₀.source_floats c.source_floats

-- a run that is done has filled the columns; after a refusal they may hold anything, as long as they were
abbrev pub RanAs : Res Done → Result KeptCounts Refusal → List (List ℕ) → Columns → Columns → Type 0
RanAs (ok d) (Ok n) st c₀ c = Filled d n st c₀ c
RanAs (ok d) (Err y) st c₀ c = ⊥
RanAs (refused x) (Ok n) st c₀ c = ⊥
RanAs (refused x) (Err y) st c₀ c = y ≡ x

-- the answer once the lists are counted, by what the values gave
abbrev pub ran_by : Result ℕ Refusal → lists.ListCounts → ℕ → Result KeptCounts Refusal
ran_by (Ok used) n objects =
    Ok (record { objects = objects; collected = n.collected; rows = n.rows; entries = n.entries; plain = n.plain; sources = used })
ran_by (Err y) n objects = Err y

-- what is sound is run; a bad table is refused
abbrev pub decided : Shaped → Book → Fit → Rooms → Res Done
decided (Ok s) k f q = run k f q
decided (Err bad) k f q = refused (Shape bad.table)
