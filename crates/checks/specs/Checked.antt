-- What the parts of a check answer, and what they leave in the columns. Definitions only.
use Rattle.std.specs.Prelude.{ℕ, ◌≡◌, Bool, List, [], Float, length, Result, Ok, Err}
use denote.Triple.Both.{Both}
use Rattle.columns.specs.Lending.{LentColumn}
use Rattle.laws.specs.Columns.{Col}
use Rattle.rules.specs.Outcome.{Lent, Done}
use Rattle.sources.specs.declared.Recording.{Recording}
use Rattle.clear.specs.declared.KeptCounts.{KeptCounts}
use Rattle.run.specs.Filled.{Columns, columns, Filled}
use Rattle.run.specs.declared.lists.ListCounts.{ListCounts}
use Rattle.given.specs.Judging.{shown_in}
use Rattle.checks.specs.declared.verdict.CheckRefusal.{CheckRefusal}
use Rattle.checks.specs.Check.{Verdict}

-- list 5 has no room
abbrev pub run : Bool → Recording
run recording = record { room = 0; recording = recording }

-- an accepted listing has n lines, and the column their values
abbrev pub LaidIf : Verdict → ℕ → List (List ℕ) → List Float → List Float → Type 0
LaidIf (Ok t) n ls v v' = (length ls ≡ n) × Col shown_in ls v v'
LaidIf (Err e) n ls v v' = Unit {0}

-- ---- what is lent: list 5 is not

abbrev pub lengths : ℕ → ℕ → ℕ → ℕ → ℕ → ℕ → ℕ → ℕ → Lent
lengths c v r b x e w p =
    record { collected = c; collected_values = v; rows = r; bases = b; values = x; entries = e; entry_values = w; plain = p; sources = 0; source_floats = 0 }

-- as they were lent, and as they come back
abbrev pub check_columns : LentColumn (List ℕ) → LentColumn Float → LentColumn (List ℕ) → LentColumn Float → LentColumn Float → LentColumn (List ℕ) → LentColumn Float → LentColumn (List ℕ) → Both Columns Columns
check_columns c v r b x e w p =
    record {
      entry = columns c.entry.now v.entry.now r.entry.now b.entry.now x.entry.now e.entry.now w.entry.now p.entry.now [] [];
      exit = columns c.exit.now v.exit.now r.exit.now b.exit.now x.exit.now e.exit.now w.exit.now p.exit.now [] [];
    }

-- ---- the counts to keep: none after a refusal

abbrev pub no_counts : KeptCounts
no_counts = record { objects = 0; collected = 0; rows = 0; entries = 0; plain = 0; sources = 0 }

abbrev pub counts_of : ListCounts → ℕ → KeptCounts
counts_of n objects =
    record { objects = objects; collected = n.collected; rows = n.rows; entries = n.entries; plain = n.plain; sources = 0 }

-- the verdict of what is answered, and its counts
abbrev pub verdict_in : Result KeptCounts CheckRefusal → Verdict
verdict_in (Ok n) = Ok tt
verdict_in (Err e) = Err e

abbrev pub counts_in : Result KeptCounts CheckRefusal → KeptCounts
counts_in (Ok n) = n
counts_in (Err e) = no_counts

-- an accepted listing leaves d in the columns c, which were c₀; after a refusal nothing is counted, and they may hold anything
abbrev pub LeftBy : Verdict → KeptCounts → Done → List (List ℕ) → Columns → Columns → Type 0
LeftBy (Ok t) n d st c₀ c = Filled d n st c₀ c
LeftBy (Err e) n d st c₀ c = n ≡ no_counts
