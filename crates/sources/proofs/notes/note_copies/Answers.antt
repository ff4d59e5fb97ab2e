-- `notes::note_copies` meets its contract. Assumes nothing.
use Rattle.sources.proofs.notes.note_copies.Goals as goal
use native.Mathlib.Omega.{arith}
use mathlib.Core.Path.{refl, ◌∙◌}
use Rattle.std.proofs.lemmas.Result.{err_from_is_err_and}
use Rattle.sources.proofs.Copying.{start, free, again, stopped, done, more_on, more_few, none_more}

pub loop-n-init : goal.loop-n-init
loop-n-init c = ((none_more c.args.run.recording _, none_more c.args.run.recording _, omega arith), refl, refl, λ w counts s₀ f₀ i row m t b k fit. start w counts s₀ f₀ i row _ _ m k fit)

pub note-requires : goal.note-requires
note-requires c = record { roomy = (omega (arith, c.requires.roomy, c.loop-n.invariant.1), omega (arith, c.requires.roomy, c.loop-n.invariant.2), omega (arith, c.requires.roomy, c.loop-n.invariant.0)) }

pub loop-n-preserved : goal.loop-n-preserved
loop-n-preserved c = (
  (more_on c.args.run.recording _ _ _ 1 c.loop-n.invariant.0.0 c.in_ok-now.ensures.advanced.0, more_on c.args.run.recording _ _ _ 1 c.loop-n.invariant.0.1 c.in_ok-now.ensures.advanced.1, omega (arith, c.loop-n-test.true)),
  c.note.auto.sources ∙ c.loop-n.invariant.1,
  c.note.auto.floats ∙ c.loop-n.invariant.2,
  λ w counts s₀ f₀ i row m t b k fit.
      let q = c.loop-n.invariant.3 w counts s₀ f₀ i row m t b k fit in
      again w counts s₀ f₀ i row _ _ m q _ _ c.loop-n-test.true (omega (arith, c.in_ok-now.ensures.advanced.0, more_few c.args.run.recording 1)) (c.in_ok-now.ensures.defined w counts s₀ f₀ i row q.mem t b q.keeping (free w counts s₀ f₀ i row _ _ m q c.loop-n-test.true)),
)

pub shape_of-sources-in_err-now : goal.shape_of-sources-in_err-now
shape_of-sources-in_err-now c = c.note.auto.sources ∙ c.loop-n.invariant.1

pub shape_of-floats-in_err-now : goal.shape_of-floats-in_err-now
shape_of-floats-in_err-now c = c.note.auto.floats ∙ c.loop-n.invariant.2

pub returns-in_err-now-clause-defined : goal.returns-in_err-now-clause-defined
returns-in_err-now-clause-defined c = let p = err_from_is_err_and c.from_residual.result c.from_residual.ensures.1 in λ w counts s₀ f₀ i row m t b k fit.
    let q = c.loop-n.invariant.3 w counts s₀ f₀ i row m t b k fit in
    rw (p.1, p.2) (stopped w counts s₀ f₀ i row _ _ m q _ _ c.loop-n-test.true _ (c.in_err-now.ensures.defined w counts s₀ f₀ i row q.mem t b q.keeping (free w counts s₀ f₀ i row _ _ m q c.loop-n-test.true)))

pub shape_of-sources : goal.shape_of-sources
shape_of-sources c = c.loop-n.invariant.1

pub shape_of-floats : goal.shape_of-floats
shape_of-floats c = c.loop-n.invariant.2

pub returns-clause-defined : goal.returns-clause-defined
returns-clause-defined c = λ w counts s₀ f₀ i row m t b k fit. done w counts s₀ f₀ i row _ _ m (c.loop-n.invariant.3 w counts s₀ f₀ i row m t b k fit) c.loop-n-test.false
