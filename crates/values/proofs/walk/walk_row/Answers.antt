-- `walk::walk_row` meets its contract. Assumes nothing.
use Rattle.values.proofs.walk.walk_row.Goals as goal
use native.Mathlib.Omega.{arith}
use Rattle.memory.proofs.Holdings.{value_long}
use Rattle.memory.proofs.Starts.{known_row}
use Rattle.values.proofs.Settling.{settled_meets}

pub returns-then-v : goal.returns-then-v
returns-then-v c = record { defined = λ h. known_row h c.args.row c.requires.within c.args.left c.if-v.true }

pub returns-then-untouched : goal.returns-then-untouched
returns-then-untouched c = record { defined = λ h. settled_meets h c.args.row c.requires.within c.if-v.false c.args.left (c.untouched.ensures.untouched c.if-untouched.true) }
