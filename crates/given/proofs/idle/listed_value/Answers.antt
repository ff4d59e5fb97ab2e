-- `idle::listed_value` meets its contract. Assumes nothing.
use Rattle.given.proofs.idle.listed_value.Goals as goal
use native.Mathlib.Omega.{arith}
use mathlib.Core.Path.{ap}
use mir.Facts.{to_z-of_z}
use Rattle.rules.specs.declared.DogmaAttribute.{DogmaAttribute}
use Rattle.given.proofs.Idling.{found_inside, found_listed, absent_listed}

pub offset_bounds-values-row : goal.offset_bounds-values-row
offset_bounds-values-row c = omega (arith, c.ranges, c.well_formed, found_inside c.requires.judged c.args.object c.args.attribute _ (rw (to_z-of_z c.ranges.attribute) at (c.in-Some.ensures.defined c.requires.judged.world.rows c.requires.judged.told.held c.requires.judged.told.stretched)))

pub bounds-values-row : goal.bounds-values-row
bounds-values-row c = omega (arith, c.ranges, c.well_formed, found_inside c.requires.judged c.args.object c.args.attribute _ (rw (to_z-of_z c.ranges.attribute) at (c.in-Some.ensures.defined c.requires.judged.world.rows c.requires.judged.told.held c.requires.judged.told.stretched)))

pub returns-in-Some : goal.returns-in-Some
returns-in-Some c = record { defined = λ h. found_listed h c.args.object c.args.attribute _ (rw (to_z-of_z c.ranges.attribute) at (c.in-Some.ensures.defined h.world.rows h.told.held h.told.stretched)) }

pub returns-in-None : goal.returns-in-None
returns-in-None c = record { defined = λ h. absent_listed h c.args.object c.args.attribute (rw (to_z-of_z c.ranges.attribute) at (c.in-None.ensures.defined h.world.rows h.told.held h.told.stretched)) _ (ap (λ (r : DogmaAttribute). r.default_value) (rw (to_z-of_z c.ranges.attribute) at c.get_dogma_attribute.ensures.defined)) }
