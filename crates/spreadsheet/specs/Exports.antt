-- What an export gives back. Definitions only.
use Rattle.std.specs.Prelude.{ℕ, ◌≡◌, Bool, true, false, List, length}
use Rattle.laws.specs.Columns.{column}
use Rattle.columns.specs.Lending.{LentColumn}
use Rattle.rules.specs.Outcome.{Lent, outcome}
use Rattle.promises.specs.Result.{Result, Meets}
use Rattle.promises.specs.Zeros.{Empty}
use Rattle.run.specs.Filled.{Columns}
use Rattle.calculate.specs.declared.Outcome.{Outcome}
use Rattle.csv_text.specs.Labels.{Export, text, engine, label, full, export_of, number_of, place_of, text_of}
use Rattle.csv_text.specs.Puts.{Told}
use Rattle.spreadsheet.specs.declared.Exported.{Exported}

-- the counts are given where all is kept
abbrev pub count_if : Bool → ℕ → ℕ
count_if true n = n
count_if false n = 0

abbrev pub exported_of : Outcome → Told → Bool → Exported
exported_of made told keep =
    record {
      number = told.number;
      place = told.place;
      collected = count_if keep made.collected;
      rows = count_if keep made.rows;
      entries = count_if keep made.entries;
      plain = count_if keep made.plain;
      sources = count_if keep made.sources;
      length = told.length;
    }

-- what a call gives back but the text, with the columns as they are then
abbrev pub result_of : Exported → List (List ℕ) → Columns → Result
result_of r st c =
    record {
      number = r.number;
      place = r.place;
      counts = record { collected = r.collected; rows = r.rows; entries = r.entries; plain = r.plain; sources = r.sources };
      states = st;
      collected = c.collected;
      collected_values = c.collected_values;
      rows = c.rows;
      bases = c.bases;
      values = c.values;
      entries = c.entries;
      entry_values = c.entry_values;
      plain = c.plain;
      sources = c.sources;
      source_floats = c.source_floats;
    }

-- lists, states and counts: those of a run where there is a text; after a refusal all are zero
abbrev pub ListsFor : Export → List ℕ → Lent → Result → Type 0
ListsFor (text d t) b l r = Meets b l r
ListsFor (engine x) b l r = Empty l r
ListsFor (label i) b l r = Empty l r
ListsFor full b l r = Empty l r

-- of a sheet b and lists lent, labels and their bytes: number, place and length, the lent bytes, and all the rest
pub record ExportedAs (x : Export) (b : List ℕ) (l : Lent) (out out' : List ℕ) (long : ℕ) (r : Result) : Type 0 where
  pub by_number : r.number ≡ number_of x
  pub by_place : r.place ≡ place_of x
  pub by_length : long ≡ length (text_of x)
  pub by_text : out' ≡ column (λ y. y) 0 (text_of x) (length out)
  pub by_lists : ListsFor x b l r

abbrev pub Exports : List ℕ → Lent → List (List ℕ) → List ℕ → LentColumn ℕ → ℕ → Result → Type 0
Exports b l labels bytes out long r =
    ExportedAs (export_of (outcome b l) labels bytes (length out.entry.now)) b l out.entry.now out.exit.now long r
