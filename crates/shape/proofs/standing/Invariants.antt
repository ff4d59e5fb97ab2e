use Rattle.shape.proofs.standing.Given as goal
use native.Mathlib.Omega.{arith}
use Prim.Native.Nat.{◌-◌}
use Rattle.laws.specs.Lists.{from}
use Rattle.rules.specs.Files as rule
use Rattle.shape.proofs.Following.{Stood, stood_first, stood_all, too_many, elsewhere, small, stood_next}

abbrev pub invariant-loop-t : goal.invariant-loop-t
invariant-loop-t l = Stood l.pairs l.n (rule.standing l.pairs l.h (from l.first l.tables) l.n) l.last l.t l.end
