use Rattle.hits.proofs.wanted.wanted_of.Given as goal
use Rattle.hits.specs.Marks.{AllMarked}

abbrev pub invariant-loop-row : goal.invariant-loop-row
invariant-loop-row l = AllMarked l.row-index l.wanted l.skills
