use Rattle.tournament.proofs.in_block.Given as goal

abbrev pub ghost-walk : goal.ghost-walk
ghost-walk g a = g.os
