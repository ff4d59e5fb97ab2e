-- `loops::queued` meets its contract.
use Rattle.loops.proofs.queued.Goals as goal
use native.Mathlib.Omega.{arith}
use mathlib.Core.Path.{◌∙◌}
use Rattle.loops.proofs.Queues.{queued_kept, room_left, queued_new}

pub returns-then-own-mark : goal.returns-then-own-mark
returns-then-own-mark c = record { queued = queued_kept c.args.mark c.args.row c.args.end c.args.work.now c.requires.room c.if-own-mark.true }

pub put-requires-2 : goal.put-requires-2
put-requires-2 c = record { inside = (omega (arith, c.put.auto.work, room_left c.args.mark c.args.row c.args.end c.args.work.now c.requires.room c.requires.inside.0 c.if-own-mark.false), omega arith) }

pub returns : goal.returns
returns c = record { queued = queued_new c.args.mark c.args.row c.args.end c.args.work.now c.requires.room c.requires.inside.0 c.if-own-mark.false c.put.ensures.put c.put-2.ensures.put (c.put-2.auto.work ∙ c.put.auto.work) }
