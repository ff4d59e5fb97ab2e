-- `seats::touches` meets its contract.
use Rattle.seats.proofs.touches.Goals as goal
use mathlib.Core.Path.{refl}
use Rattle.seats.proofs.Loops.{touching, last_one}

pub returns-then-next-n : goal.returns-then-next-n
returns-then-next-n c = record { defined = touching c.args.t c.args.n c.args.i refl c.end-end.ensures.defined c.if-next-n.true }

pub returns : goal.returns
returns c = record { defined = last_one c.args.t c.args.n c.args.i c.if-next-n.false }
