-- `order::turn` meets its contract.
use Rattle.order.proofs.turn.Goals as goal
use mathlib.Core.Path.{refl}
use native.Mathlib.Omega.{arith}
use Rattle.needs.specs.Telling.{tables_of}
use Rattle.order.proofs.Walks.{walking_next, all_looked, nothing_needed, path_top}

pub returns-then-mark-eq-PLACED : goal.returns-then-mark-eq-PLACED
returns-then-mark-eq-PLACED c = record { walking = walking_next c.requires.walking c.requires.left c.if-mark-eq-PLACED.true }

pub returns-then-needless : goal.returns-then-needless
returns-then-needless c = record { walking = c.place.ensures.walking (tables_of c.args.columns.now) refl c.requires.walking (record { within = c.requires.left; unplaced = c.if-mark-eq-PLACED.false }) (nothing_needed c.args.work.now c.args.walk.next (λ h s. c.needs_nothing-needless.ensures.nothing h c.if-needless.true s)) }

pub returns-then-walk-eq0 : goal.returns-then-walk-eq0
returns-then-walk-eq0 c = record { walking = c.push.ensures.walking (tables_of c.args.columns.now) c.requires.walking (record { within = c.requires.left; unplaced = c.if-mark-eq-PLACED.false }) }

pub returns-then-slots-slot : goal.returns-then-slots-slot
returns-then-slots-slot c = record { walking = c.place-then-slots-slot.ensures.walking (tables_of c.args.columns.now) refl c.requires.walking (record { within = path_top c.requires.walking c.if-walk-eq0.false c.index-top.ensures.defined.0; unplaced = c.if-mark-eq-PLACED-2.false }) (all_looked c.requires.walking (record { within = path_top c.requires.walking c.if-walk-eq0.false c.index-top.ensures.defined.0; unplaced = c.if-mark-eq-PLACED-2.false }) (omega (arith, c.if-slots-slot.true, c.slots_of-slots.ensures.defined, c.index-slot.ensures.defined.0))) }
