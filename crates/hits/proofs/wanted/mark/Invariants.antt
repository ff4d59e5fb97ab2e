use Rattle.hits.proofs.wanted.mark.Given as goal
use Rattle.hits.specs.Marks.{Marking}

abbrev pub invariant-loop-required : goal.invariant-loop-required
invariant-loop-required l = Marking l.initial.wanted l.wanted l.required-items l.required-index
