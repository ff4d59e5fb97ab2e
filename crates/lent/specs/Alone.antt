-- A book or a fit that has the tables of one test alone: no other table is read by it. Definitions only.
use Rattle.std.specs.Prelude.{ℕ, List, [], Float}
use Rattle.rules.specs.Sheet.{Book, Fit}
use Rattle.tables.specs.Tables.{book_tables, fit_tables, book_lent, fit_lent}

abbrev pub attributes_alone : List (List ℕ) → List Float → Book
attributes_alone a d = book_lent (book_tables [] a d [] [] [] [])

abbrev pub effects_alone : List (List ℕ) → List (List ℕ) → Book
effects_alone e m = book_lent (book_tables [] [] [] e m [] [])

abbrev pub type_effects_alone : List (List ℕ) → Book
type_effects_alone y = book_lent (book_tables [] [] [] [] [] y [])

abbrev pub buff_collections_alone : List (List ℕ) → List (List ℕ) → Book
buff_collections_alone b m = book_lent (book_tables [] [] [] [] m [] b)

abbrev pub objects_alone : List (List ℕ) → List ℕ → List ℕ → Fit
objects_alone o v i = fit_lent (fit_tables [] o v [] i [] [] [])

abbrev pub bases_alone : List (List ℕ) → List ℕ → List Float → Fit
bases_alone o v w = fit_lent (fit_tables [] o v w [] [] [] [])

abbrev pub asks_alone : List (List ℕ) → List (List ℕ) → Fit
asks_alone k o = fit_lent (fit_tables [] o [] [] [] [] [] k)
