-- `header::categories_at` meets its contract. Assumes nothing.
use Rattle.info.proofs.header.categories_at.Goals as goal
use mathlib.Core.Path.{sym, refl, ◌∙◌}
use borrow.Author.Tests.{eq-eqb, ne_eqb}

pub returns-then-first-eq-BOOK_HEADER : goal.returns-then-first-eq-BOOK_HEADER
returns-then-first-eq-BOOK_HEADER c = record { defined = rw (eq-eqb _ 52 (sym c.offset_of-first.ensures.defined ∙ c.if-first-eq-BOOK_HEADER.true)) refl }

pub returns : goal.returns
returns c = record { defined = rw (ne_eqb _ 52 (λ e. c.if-first-eq-BOOK_HEADER.false (c.offset_of-first.ensures.defined ∙ e))) refl }
