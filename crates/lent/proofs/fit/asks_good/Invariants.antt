use Rattle.lent.proofs.fit.asks_good.Given as goal
use lib.ListN.{length}
use Rattle.lent.specs.Alone.{asks_alone}
use Rattle.shape.proofs.Scans.{Each}
use lib.Dec.{ltb}
use Rattle.rules.specs.Shape.{asks_good}

abbrev pub invariant-loop-i : goal.invariant-loop-i
invariant-loop-i l = Each (λ a. ltb a.object (length (asks_alone l.asks l.objects).objects)) (asks_good (asks_alone l.asks l.objects)) (asks_alone l.asks l.objects).asks (length l.asks) l.i
