use Rattle.info.proofs.look_ups.lower.Given as goal
use Rattle.info.proofs.Searches.{CountedBelow}

abbrev pub invariant-loop-k : goal.invariant-loop-k
invariant-loop-k l = CountedBelow l.b l.at l.w l.n l.id l.k l.found
