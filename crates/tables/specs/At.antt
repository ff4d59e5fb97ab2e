-- The tables that columns hold where they are lent. Definitions only.
use Rattle.std.specs.Prelude.{ℕ, List, Float}
use Rattle.std.specs.Borrow.{Bor}
use denote.Triple.Both.{Both}
use Rattle.tables.specs.Tables.{Tables, book_tables, fit_tables}
use Rattle.tables.specs.declared.BookTables.{BookTables}
use Rattle.tables.specs.declared.FitTables.{FitTables}

-- what a parameter that is lent is at entry and at exit: numbers, rows of numbers, floats
abbrev pub Numbers : Type 0
Numbers = Both (Bor (List ℕ)) (Bor (List ℕ))

abbrev pub Rows : Type 0
Rows = Both (Bor (List (List ℕ))) (Bor (List (List ℕ)))

abbrev pub Floats : Type 0
Floats = Both (Bor (List Float)) (Bor (List Float))

-- in a `requires`
abbrev pub book_now : Bor (List (List ℕ)) → Bor (List Float) → Bor (List (List ℕ)) → Bor (List (List ℕ)) → Bor (List (List ℕ))
    → Bor (List (List ℕ)) → List ℕ → Tables
book_now a d e m y b h = book_tables h a.now d.now e.now m.now y.now b.now

abbrev pub fit_now : Bor (List (List ℕ)) → Bor (List ℕ) → Bor (List Float) → Bor (List ℕ) → Bor (List ℕ) → Bor (List Float)
    → Bor (List (List ℕ)) → List ℕ → Tables
fit_now o v w i p q k h = fit_tables h o.now v.now w.now i.now p.now q.now k.now

-- in an `ensures`
abbrev pub book_at : Rows → Floats → Rows → Rows → Rows → Rows → List ℕ → Tables
book_at a d e m y b h = book_now a.entry d.entry e.entry m.entry y.entry b.entry h

abbrev pub fit_at : Rows → Numbers → Floats → Numbers → Numbers → Floats → Rows → List ℕ → Tables
fit_at o v w i p q k h = fit_now o.entry v.entry w.entry i.entry p.entry q.entry k.entry h

-- the tables of a book and of a fit that are lent together, under a header
abbrev pub book_in : BookTables → List ℕ → Tables
book_in b h = book_now b.attributes b.defaults b.effects b.modifiers b.type_effects b.buff_collections h

abbrev pub fit_in : FitTables → List ℕ → Tables
fit_in f h = fit_now f.objects f.base_attributes f.base_values f.ids f.buffs f.buff_values f.asks h
