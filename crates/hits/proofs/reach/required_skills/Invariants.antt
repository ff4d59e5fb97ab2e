use Rattle.hits.proofs.reach.required_skills.Given as goal
use Rattle.rules.specs.Sheet.{fit_of}
use Rattle.hits.proofs.Filled.{Filled}

abbrev pub invariant-loop-k : goal.invariant-loop-k
invariant-loop-k l = Filled (fit_of l.fit l.pairs).bases l.first l.n l.row l.k
