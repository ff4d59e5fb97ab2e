use Rattle.given.proofs.lines.set_listed.Given as goal
use Prim.Native.Nat.{◌≤◌}
use lib.ListN.{length, take}
use Rattle.laws.specs.Columns.{Col}
use Rattle.given.specs.Judging.{shown_in}

abbrev pub invariant-loop-i : goal.invariant-loop-i
invariant-loop-i l = (l.i ≤ length l.listing) × Col shown_in (take l.i l.listing) l.initial.values l.values
