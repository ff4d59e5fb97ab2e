-- `loops::loop_of` meets its contract.
use Rattle.loops.proofs.loop_of.Goals as goal
use mathlib.Core.Path.{sym}
use Rattle.loops.proofs.Firsts.{ranked_none}

pub returns-then-all : goal.returns-then-all
returns-then-all c = record { defined = λ h. sym (ranked_none h.world (c.ordered-all.ensures.ranked h c.if-all.true)) }
