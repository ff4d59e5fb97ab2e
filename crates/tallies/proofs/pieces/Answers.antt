-- `pieces` meets its contract. Assumes nothing.
use Rattle.tallies.proofs.pieces.Goals as goal
use native.Mathlib.Omega.{arith}
use mathlib.Core.Path.{ap, ◌∙◌}
use mathlib.Core.Bool.{Bool, cond}

pub returns : goal.returns
returns c = record {
  defined = λ k of. c.many.ensures.defined ∙ ap (λ (b : Bool). cond b c.args.o.quantity 0) (c.is_counted-own.ensures.defined k of);
  at_most = omega arith;
}
