-- `idle::idles_have_strength` meets its contract. Assumes nothing.
use mathlib.Core.Bool.{not}
use Rattle.given.proofs.idle.idles_have_strength.Goals as goal
use native.Mathlib.Omega.{arith}
use mathlib.Core.Path.{refl, ap}
use Rattle.memory.specs.Steps.{row_at}
use Rattle.given.proofs.Idling.{all_done, counted, its_entry, its_good, entry_strong, entry_weak}

pub loop-k-init : goal.loop-k-init
loop-k-init c = (omega arith, λ h. refl)

pub has_strength-requires-clause-good : goal.has_strength-requires-clause-good
has_strength-requires-clause-good c = its_good c.requires.judged c.args.row c.requires.within _ _ c.index-first.ensures.defined.0 c.index-count.ensures.defined.0 c.loop-k.k c.loop-k-test.true _ (c.entry_at-e.ensures.defined _ (its_entry c.requires.judged c.args.row c.requires.within _ _ c.index-first.ensures.defined.0 c.index-count.ensures.defined.0 c.loop-k.k c.loop-k-test.true))

pub returns-then-not-has_strength : goal.returns-then-not-has_strength
returns-then-not-has_strength c = record { defined = λ h. entry_weak h c.args.row c.requires.within _ _ c.index-first.ensures.defined.0 c.index-count.ensures.defined.0 c.loop-k.k c.loop-k-test.true _ (c.entry_at-e.ensures.defined _ (its_entry h c.args.row c.requires.within _ _ c.index-first.ensures.defined.0 c.index-count.ensures.defined.0 c.loop-k.k c.loop-k-test.true)) _ (c.has_strength.ensures.defined h c.args.row (row_at h.world c.args.row)) (c.loop-k.invariant.1 h) (ap not c.if-not-has_strength.true) }

pub loop-k-preserved : goal.loop-k-preserved
loop-k-preserved c = (omega (arith, c.loop-k-test.true), λ h. entry_strong h c.args.row c.requires.within _ _ c.index-first.ensures.defined.0 c.index-count.ensures.defined.0 c.loop-k.k c.loop-k-test.true _ (c.entry_at-e.ensures.defined _ (its_entry h c.args.row c.requires.within _ _ c.index-first.ensures.defined.0 c.index-count.ensures.defined.0 c.loop-k.k c.loop-k-test.true)) _ (c.has_strength.ensures.defined h c.args.row (row_at h.world c.args.row)) (c.loop-k.invariant.1 h) (ap not c.if-not-has_strength.false))

pub returns : goal.returns
returns c = record { defined = λ h. all_done h c.args.row (row_at h.world c.args.row) c.loop-k.k (omega (arith, c.loop-k-test.false, counted h c.args.row c.requires.within _ _ c.index-first.ensures.defined.0 c.index-count.ensures.defined.0)) (c.loop-k.invariant.1 h) }
