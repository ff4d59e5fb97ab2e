-- `notes::note_penalised` meets its contract. Assumes nothing.
use Rattle.sources.proofs.notes.note_penalised.Goals as goal
use native.Mathlib.Omega.{arith}
use Rattle.std.proofs.lemmas.Result.{err_from_is_err_and}
use Rattle.sources.proofs.Copying.{more_few, refused_copies, no_rest, copied, rest}

pub returns-in_err-copied-clause-defined : goal.returns-in_err-copied-clause-defined
returns-in_err-copied-clause-defined c = let p = err_from_is_err_and c.from_residual.result c.from_residual.ensures.1 in λ w counts s₀ f₀ i row m t b k fit.
    let went = rw c.to_source-one.ensures.defined at (c.in_err-copied.ensures.defined w counts s₀ f₀ i row m t b k (λ e. omega (arith, fit e, c.kept-copies.ensures.defined))) in
    rw (p.1, p.2) (refused_copies w counts s₀ f₀ i row c.args.e c.args.strength m _ _ _ _ c.kept-copies.ensures.defined went)

pub returns-then-quantity-le8-clause-defined : goal.returns-then-quantity-le8-clause-defined
returns-then-quantity-le8-clause-defined c = λ w counts s₀ f₀ i row m t b k fit.
    let went = rw c.to_source-one.ensures.defined at (c.in_ok-copied.ensures.defined w counts s₀ f₀ i row m t b k (λ e. omega (arith, fit e, c.kept-copies.ensures.defined))) in
    no_rest w counts s₀ f₀ i row c.args.e c.args.strength m _ _ _ _ c.kept-copies.ensures.defined c.if-quantity-le8.true went

pub note-requires : goal.note-requires
note-requires c = record { roomy = (omega (arith, c.requires.roomy, c.note_copies.auto.sources), omega (arith, c.requires.roomy, c.note_copies.auto.floats), omega (arith, c.requires.roomy, c.in_ok-copied.ensures.advanced)) }

pub returns-clause-defined : goal.returns-clause-defined
returns-clause-defined c = λ w counts s₀ f₀ i row m t b k fit.
    let went = rw c.to_source-one.ensures.defined at (c.in_ok-copied.ensures.defined w counts s₀ f₀ i row m t b k (λ e. omega (arith, fit e, c.kept-copies.ensures.defined))) in
    let g = copied w counts s₀ f₀ i row c.args.e c.args.strength m _ _ _ _ c.kept-copies.ensures.defined went in
    rest w counts s₀ f₀ i row c.args.e c.args.strength m _ _ _ _ c.kept-copies.ensures.defined went _ _ _ c.if-quantity-le8.false
    (rw c.to_source-rest.ensures.defined at (c.note.ensures.defined w counts s₀ f₀ i row g.mem t b g.keeping (λ e. omega (arith, fit e, c.in_ok-copied.ensures.advanced, g.keeping.mine, k.mine, c.kept-copies.ensures.defined, c.if-quantity-le8.false, more_few c.args.run.recording c.kept-copies.result))))
