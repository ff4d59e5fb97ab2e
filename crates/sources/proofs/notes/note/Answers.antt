-- `notes::note` meets its contract. Assumes nothing.
use Rattle.sources.proofs.notes.note.Goals as goal
use native.Mathlib.Omega.{arith}
use Rattle.sources.proofs.Noting.{off, full, noted}
use mathlib.Core.Path.{sym, ap, ◌∙◌}
use mathlib.Core.Bool.{not}
use Rattle.laws.proofs.Bools.{not-not}

pub returns-then-not-run-clause-defined : goal.returns-then-not-run-clause-defined
returns-then-not-run-clause-defined c = λ w counts s₀ f₀ i row m t b k fit. off w counts s₀ f₀ i row m _ k (t.recording ∙ sym (not-not _) ∙ ap not c.if-not-run.true)

pub returns-then-run-counts-clause-defined : goal.returns-then-run-counts-clause-defined
returns-then-run-counts-clause-defined c = λ w counts s₀ f₀ i row m t b k fit. full w counts s₀ f₀ i row m _ k (t.recording ∙ sym (not-not _) ∙ ap not c.if-not-run.false) (omega (arith, t.room, c.if-run-counts.true))

pub returns-clause-defined : goal.returns-clause-defined
returns-clause-defined c = λ w counts s₀ f₀ i row m t b k fit. noted w counts s₀ f₀ i row m _ k b (omega (arith, fit (t.recording ∙ sym (not-not _) ∙ ap not c.if-not-run.false))) (omega (arith, t.room, c.if-run-counts.false)) (omega (arith, t.room)) (t.recording ∙ sym (not-not _) ∙ ap not c.if-not-run.false) (rw t.room c.put_source.ensures.numbers) (rw t.room c.put_source.ensures.floats)
