-- What a call gives back. Definitions only.
use Rattle.std.specs.Prelude.{ℕ, List, Ok, Err}
use Rattle.std.specs.Prelude as code
use Rattle.rules.specs.declared.Refusal.{Refusal}
use Rattle.rules.specs.Answer.{Answer}
use Rattle.rules.specs.Answer as answer
use Rattle.clear.specs.declared.KeptCounts.{KeptCounts}
use Rattle.promises.specs.Result.{Result}
use Rattle.run.specs.Filled.{Columns}
use Rattle.calculate.specs.declared.Outcome.{Outcome}

-- the counts to keep: none after a refusal
abbrev pub counts_given : code.Result KeptCounts Refusal → KeptCounts
counts_given (Ok n) = n
counts_given (Err y) = record { objects = 0; collected = 0; rows = 0; entries = 0; plain = 0; sources = 0 }

-- what code holds as `Ok` or `Err`, as the definition has it
abbrev pub answer_from : code.Result (Unit {0}) Refusal → Answer
answer_from (Ok u) = answer.Done
answer_from (Err y) = answer.Refused y

abbrev pub answer_given : code.Result KeptCounts Refusal → Answer
answer_given (Ok n) = answer.Done
answer_given (Err y) = answer.Refused y

-- what a call gives back, with the columns as they are then
abbrev pub result_of : Outcome → List (List ℕ) → Columns → Result
result_of r st c =
    record {
      number = r.number;
      place = r.place;
      counts = record { collected = r.collected; rows = r.rows; entries = r.entries; plain = r.plain; sources = r.sources };
      states = st;
      collected = c.collected;
      collected_values = c.collected_values;
      rows = c.rows;
      bases = c.bases;
      values = c.values;
      entries = c.entries;
      entry_values = c.entry_values;
      plain = c.plain;
      sources = c.sources;
      source_floats = c.source_floats;
    }
