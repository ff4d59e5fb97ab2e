-- What lent columns say at a function's entry, in the words of the definition. Definitions only.
use Rattle.std.specs.Prelude.{ℕ, List, Float}
use Rattle.std.specs.Borrow.{Bor}
use denote.Triple.Both.{Both}
use Rattle.rules.specs.Bytes.{count_of}
use Rattle.rules.specs.Sheet.{Book, Fit, book_of, fit_of}
use Rattle.rules.specs.Item as items
use Rattle.rules.specs.declared.Item.{Item}

-- what a parameter that is lent is at entry and at exit: numbers, rows of numbers, floats
abbrev pub Numbers : Type 0
Numbers = Both (Bor (List ℕ)) (Bor (List ℕ))

abbrev pub Rows : Type 0
Rows = Both (Bor (List (List ℕ))) (Bor (List (List ℕ)))

abbrev pub Floats : Type 0
Floats = Both (Bor (List Float)) (Bor (List Float))

-- the two parts of the sheet, by their bytes and the pairs of the header
abbrev pub book_at : Numbers → Rows → Book
book_at b p = book_of b.entry.now p.entry.now

abbrev pub fit_at : Numbers → Rows → Fit
fit_at f p = fit_of f.entry.now p.entry.now

-- how many objects the fit has, and object i of it
abbrev pub objects_at : Rows → ℕ
objects_at p = count_of p.entry.now 6

abbrev pub object_at : Numbers → Rows → ℕ → Item
object_at f p i = items.object (fit_at f p) i
