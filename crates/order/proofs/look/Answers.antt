-- `order::look` meets its contract.
use Rattle.order.proofs.look.Goals as goal
use native.Mathlib.Omega.{arith}
use borrow.Author.Rules.{scaled_Fits}
use Rattle.needs.specs.Telling.{tables_of}
use Rattle.order.proofs.Walks.{found_inside, nothing_there, placed_there}

pub offset_bounds-work-k : goal.offset_bounds-work-k
offset_bounds-work-k c = scaled_Fits _ _ _ (omega (arith, c.requires.walking.long, (found_inside c.requires.holding c.args.row c.args.slot _ (c.in-Some.ensures.defined c.requires.holding)))) c.well_formed.0.1

pub bounds-work-k : goal.bounds-work-k
bounds-work-k c = omega (arith, c.requires.walking.long, (found_inside c.requires.holding c.args.row c.args.slot _ (c.in-Some.ensures.defined c.requires.holding)))

pub returns-then-mark-eq-PLACED : goal.returns-then-mark-eq-PLACED
returns-then-mark-eq-PLACED c = record { walking = c.pass-then-mark-eq-PLACED.ensures.walking (tables_of c.args.columns.now) c.requires.walking c.requires.pushable (placed_there c.args.work.now c.args.row c.requires.at.0 _ (λ h. c.in-Some.ensures.defined h) c.if-mark-eq-PLACED.true) }

pub push-requires : goal.push-requires
push-requires c = record { inside = (omega (arith, c.requires.walking.long, (found_inside c.requires.holding c.args.row c.args.slot _ (c.in-Some.ensures.defined c.requires.holding))), omega (arith, c.requires.walking.few, (found_inside c.requires.holding c.args.row c.args.slot _ (c.in-Some.ensures.defined c.requires.holding)))) }

pub returns-then-mark-eq-NOT_MET : goal.returns-then-mark-eq-NOT_MET
returns-then-mark-eq-NOT_MET c = record { walking = c.push.ensures.walking (tables_of c.args.columns.now) c.requires.walking (record { within = (found_inside c.requires.holding c.args.row c.args.slot _ (c.in-Some.ensures.defined c.requires.holding)); unplaced = c.if-mark-eq-PLACED.false }) }

pub returns-in_default : goal.returns-in_default
returns-in_default c = record { walking = c.pass.ensures.walking (tables_of c.args.columns.now) c.requires.walking c.requires.pushable (nothing_there c.args.work.now c.args.row c.requires.at.0 (λ h. c.in_default.ensures.defined h)) }
