-- What dispatch is lent and what it answers, by its lists. Definitions only.
use Rattle.std.specs.Prelude.{ℕ, List, Float, Result}
use Rattle.columns.specs.Lending.{LentColumn}
use Rattle.rules.specs.Sheet.{Book, Fit}
use Rattle.rules.specs.declared.Pass2Effect.{Pass2Effect}
use Rattle.rules.specs.declared.Refusal.{Refusal}
use Rattle.info.specs.At.{Rows, Floats, objects_at}
use Rattle.dispatch.specs.declared.DispatchedCounts.{DispatchedCounts}
use Rattle.dispatch.specs.Whole.{Collection, Given}

-- list 1 holds the n effects es, on the objects that the pairs count
abbrev pub CollectionAt : List Pass2Effect → ℕ → Rows → Floats → Rows → Type 0
CollectionAt es n c v p = Collection es n c.entry.now v.entry.now (objects_at p)

-- lists 2 and 3 hold the definition's rows and entries, counted, or one of them is full
abbrev pub GivenAt : Result DispatchedCounts Refusal → ℕ → ℕ → Book → Fit → List Pass2Effect → LentColumn (List ℕ) → LentColumn Float → LentColumn (List ℕ) → LentColumn Float → Type 0
GivenAt r room2 room3 k f es rows bases entries values =
    Given r room2 room3 k f es rows.entry.now rows.exit.now bases.entry.now bases.exit.now
    entries.entry.now entries.exit.now values.entry.now values.exit.now
