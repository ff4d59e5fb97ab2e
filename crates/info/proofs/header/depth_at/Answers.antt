-- `header::depth_at` meets its contract. Assumes nothing.
use Rattle.info.proofs.header.depth_at.Goals as goal
use mathlib.Core.Path.{sym, refl, ◌∙◌}
use borrow.Author.Tests.{eq-eqb, ne_eqb}

pub returns-then-first-eq-FIT_HEADER : goal.returns-then-first-eq-FIT_HEADER
returns-then-first-eq-FIT_HEADER c = record { defined = rw (eq-eqb _ 48 (sym c.offset_of-first.ensures.defined ∙ c.if-first-eq-FIT_HEADER.true)) refl }

pub returns : goal.returns
returns c = record { defined = rw (ne_eqb _ 48 (λ e. c.if-first-eq-FIT_HEADER.false (c.offset_of-first.ensures.defined ∙ e))) refl }
