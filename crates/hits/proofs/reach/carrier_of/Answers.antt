-- `hits::carrier_of` meets its contract.
use Rattle.hits.proofs.reach.carrier_of.Goals as goal
use native.Mathlib.Omega.{arith}
use Rattle.rules.specs.Item.{no_item}
use Rattle.rules.specs.Sheet.{fit_of}
use Rattle.info.proofs.Elements.{objects_length}
use Rattle.rules.proofs.Verdicts.{objects_good_lem}
use Rattle.info.proofs.Sheets.{numbered, charge_later}
use Rattle.hits.proofs.ReachLaws.{is_charge_lem, carrier_charge, carrier_itself}

pub overflow_sub-i : goal.overflow_sub-i
overflow_sub-i c = omega (arith, charge_later (fit_of c.args.fit.now c.args.pairs.now) (objects_good_lem _ c.requires.sound_fit.good) c.args.i (omega (arith, c.requires.an_object, objects_length c.args.fit.now c.args.pairs.now)) (is_charge_lem (fit_of c.args.fit.now c.args.pairs.now) c.args.i (c.object-o.ensures.record_i no_item) c.if-o-eq-CHARGE.true))

pub returns-then-o-eq-CHARGE : goal.returns-then-o-eq-CHARGE
returns-then-o-eq-CHARGE c = record { defined = carrier_charge (fit_of c.args.fit.now c.args.pairs.now) c.args.i (c.object-o.ensures.record_i no_item) (numbered c.args.fit.now c.args.pairs.now c.args.i (omega (arith, c.requires.an_object, objects_length c.args.fit.now c.args.pairs.now))) c.if-o-eq-CHARGE.true (c.object.ensures.record_i no_item) }

pub returns : goal.returns
returns c = record { defined = carrier_itself (fit_of c.args.fit.now c.args.pairs.now) c.args.i (c.object-o.ensures.record_i no_item) c.if-o-eq-CHARGE.false }
