-- `uses::is_able` meets its contract. Assumes nothing.
use Rattle.collect.proofs.uses.is_able.Goals as goal
use Rattle.collect.proofs.Inside.{abilities_inside}

pub has_id-requires-clause-inside : goal.has_id-requires-clause-inside
has_id-requires-clause-inside c = abilities_inside c.args.fit.now c.args.pairs.now c.requires.sound_fit c.args.o c.requires.of_fit
