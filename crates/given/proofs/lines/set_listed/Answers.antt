-- `lines::set_listed` meets its contract. Assumes nothing.
use Rattle.given.proofs.lines.set_listed.Goals as goal
use native.Mathlib.Omega.{arith}
use mathlib.Core.Path.{sym, ap}
use mathlib.Core.List.{[]}
use lib.Ieee.{Float}
use lib.ListN.{get_or, take, set}
use lib.Seq.{length-take-le, take_all}
use Rattle.laws.proofs.Laid.{col_none, col_same, col_next}
use Rattle.laws.proofs.Maps.{take_next}
use Rattle.given.specs.Judging.{shown_in}

pub loop-i-init : goal.loop-i-init
loop-i-init c = (omega arith, col_none shown_in _)

pub loop-i-preserved : goal.loop-i-preserved
loop-i-preserved c = (omega (arith, c.loop-i-test.true), col_next shown_in (take c.loop-i.i c.args.listing.now) (get_or c.args.listing.now c.loop-i.i []) c.loop-i.i (take_next c.args.listing.now c.loop-i.i [] c.loop-i-test.true) c.loop-i.invariant.1 (sym (length-take-le c.loop-i.i c.args.listing.now (omega (arith, c.loop-i-test.true)))) (omega (arith, c.loop-i-test.true, c.requires.inside)) (ap (λ (x : Float). set c.loop-i.values c.loop-i.i x) c.listed_float.ensures.defined))

pub returns : goal.returns
returns c = record { laid = col_same shown_in (sym (take_all c.loop-i.i c.args.listing.now c.loop-i-test.false)) c.loop-i.invariant.1 }
