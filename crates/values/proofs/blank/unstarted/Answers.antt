-- `unstarted` meets its contract. Assumes nothing.
use Rattle.values.proofs.blank.unstarted.Goals as goal
use Prim.Native.Nat.{◌-◌, ◌≤◌}
use mathlib.Core.Path.{◌≡◌, refl, ◌∙◌}
use lib.ListN.{length}
use lib.Ieee.{nan}
use Rattle.values.proofs.BlankLaws.{Blanked, begun, one_more, done, no_number}

pub loop-k-init : goal.loop-k-init
loop-k-init c = begun _ _ c.requires.inside

pub loop-k-preserved : goal.loop-k-preserved
loop-k-preserved c = one_more c.loop-k.invariant c.loop-k-test.true no_number

pub returns : goal.returns
returns c = record { defined = done c.loop-k.invariant c.loop-k-test.false }
