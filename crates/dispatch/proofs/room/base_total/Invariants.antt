use Rattle.dispatch.proofs.room.base_total.Given as goal
use Prim.Native.Nat.{◌*◌, ◌≤◌}
use mathlib.Core.Path.{◌≡◌}
use lib.ListN.{length}
use Rattle.rules.specs.Bytes.{count_of}
use Rattle.rules.specs.Sheet.{fit_of}
use Rattle.dispatch.proofs.Bases.{keys_to}

abbrev pub invariant-loop-i : goal.invariant-loop-i
invariant-loop-i l = (l.i ≤ count_of l.pairs 6) × (l.total ≡ length (keys_to (fit_of l.fit l.pairs) l.i)) × (l.total ≤ l.i * 4294967296)
