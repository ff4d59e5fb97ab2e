-- `owners::charge_of` meets its contract. Assumes nothing.
use Rattle.collect.proofs.owners.charge_of.Goals as goal
use native.Mathlib.Omega.{arith}
use Rattle.info.proofs.Elements.{objects_length}

pub overflow_add-o : goal.overflow_add-o
overflow_add-o c = record { fits = omega (arith, c.requires.of_fit.few, c.requires.held_fit.objects.few, objects_length c.args.fit.now c.args.pairs.now) }
