-- What lists 1 to 3 say at a function's entry and at its exit, in the words of the definition. Definitions only.
use Rattle.std.specs.Prelude.{ℕ, List, Float, Option}
use Rattle.columns.specs.Lending.{LentColumn}
use Rattle.rules.specs.declared.Pass2Effect.{Pass2Effect}
use Rattle.rules.specs.Dispatch.{Row}
use Rattle.info.specs.At.{Numbers, Rows, Floats, book_at, fit_at, objects_at, object_at}
use Rattle.rows.specs.Effects.{Effects}
use Rattle.rows.specs.Entries.{hits_in, rows_for}
use Rattle.rows.specs.Laying.{ObjectLaid}
use Rattle.rows.specs.Parts.{AllLaid}
use Rattle.rows.specs.Tallies.{Tally, Answered}

-- list 1 holds the collected effects es
abbrev pub Holding : List Pass2Effect → Rows → Floats → Rows → Type 0
Holding es c v p = Effects es c.entry.now v.entry.now (objects_at p)

-- the rows of object i, by the hits in its segment
abbrev pub rows_of : Numbers → Numbers → Rows → ℕ → LentColumn (List ℕ) → List Pass2Effect → List Row
rows_of b f p i s es = rows_for (book_at b p) (fit_at f p) (object_at f p i) (hits_in es s.entry.now)

-- ---- list 2, rows and bases, and list 3, entries and values, as they were lent and as they come back

-- a part of list 2 holds the rows ts of object i, or they are too many
abbrev pub AnsweredAt : Option ℕ → ℕ → List Tally → LentColumn (List ℕ) → LentColumn Float → Type 0
AnsweredAt r i ts rows bases = Answered r i ts rows.entry.now rows.exit.now bases.entry.now bases.exit.now

-- parts of lists 2 and 3 hold the rows rs, whose entries begin at e, and their entries, or the rows are too many
abbrev pub ObjectLaidAt : Option ℕ → ℕ → List Row → LentColumn (List ℕ) → LentColumn Float → LentColumn (List ℕ) → LentColumn Float → Type 0
ObjectLaidAt r e rs rows bases segment values =
    ObjectLaid r e rs rows.entry.now rows.exit.now bases.entry.now bases.exit.now segment.exit.now values.exit.now

-- lists 2 and 3 hold the rows rs and their m entries, or there is no room for the rows
abbrev pub AllLaidAt : Option ℕ → ℕ → ℕ → List Row → LentColumn (List ℕ) → LentColumn Float → LentColumn (List ℕ) → LentColumn Float → Type 0
AllLaidAt r room m rs rows bases entries values =
    AllLaid r room m rs rows.entry.now rows.exit.now bases.entry.now bases.exit.now
    entries.entry.now entries.exit.now values.entry.now values.exit.now
