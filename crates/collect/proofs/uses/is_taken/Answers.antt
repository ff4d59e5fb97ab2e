-- `uses::is_taken` meets its contract. Assumes nothing.
use Rattle.collect.proofs.uses.is_taken.Goals as goal
use Rattle.collect.proofs.Inside.{side_effects_inside}

pub has_id-requires-clause-inside : goal.has_id-requires-clause-inside
has_id-requires-clause-inside c = side_effects_inside c.args.fit.now c.args.pairs.now c.requires.sound_fit c.args.o c.requires.of_fit
