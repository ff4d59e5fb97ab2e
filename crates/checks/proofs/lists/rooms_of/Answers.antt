-- `lists::rooms_of` meets its contract.
use Rattle.checks.proofs.lists.rooms_of.Goals as goal
use native.Mathlib.Omega.{arith}
use Rattle.checks.specs.Checked.{lengths}
use Rattle.checks.proofs.Entering.{rooms_are}

pub returns : goal.returns
returns c = record { defined = rooms_are (lengths c.args.collected c.args.collected_values c.args.rows c.args.bases c.args.values c.args.entries c.args.entry_values c.args.plain) c.args.work c.room_of.ensures.defined c.room_of-2.ensures.defined (omega (arith, c.min-least.ensures, c.min.ensures)) c.room_of-3.ensures.defined c.room_of-4.ensures.defined }
