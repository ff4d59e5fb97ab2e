use Rattle.info.proofs.look_ups.run_end.Given as goal
use Rattle.info.proofs.Searches.{Walk}

abbrev pub invariant-loop-end : goal.invariant-loop-end
invariant-loop-end l = Walk l.b l.at l.w l.n l.id l.low l.end
