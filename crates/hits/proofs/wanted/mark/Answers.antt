-- `wanted::mark` meets its contract. The measure is how many skills are left.
use Rattle.hits.proofs.wanted.mark.Goals as goal
use mathlib.Core.Path.{refl}
use Rattle.hits.proofs.Marking.{marking_none, marking_more, marking_all}

pub loop-required-init : goal.loop-required-init
loop-required-init c = marking_none c.requires.even

pub loop-required-preserved : goal.loop-required-preserved
loop-required-preserved c = marking_more c.loop-required.invariant c.loop-required-test.true refl

pub returns : goal.returns
returns c = record { defined = marking_all c.loop-required.invariant c.loop-required-test.false }
