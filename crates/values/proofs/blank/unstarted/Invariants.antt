use Rattle.values.proofs.blank.unstarted.Given as goal
use Prim.Native.Nat.{◌-◌, ◌≤◌}
use mathlib.Core.Path.{◌≡◌, refl, ◌∙◌}
use lib.ListN.{length}
use lib.Ieee.{nan}
use Rattle.values.proofs.BlankLaws.{Blanked, begun, one_more, done, no_number}

abbrev pub invariant-loop-k : goal.invariant-loop-k
invariant-loop-k l = Blanked l.n l.initial.values l.k l.values
