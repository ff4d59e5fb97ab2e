-- `hits::skilled` meets its contract.
use Rattle.hits.proofs.skilled.Goals as goal
use Rattle.hits.proofs.Aims.{skilled_char, skilled_ship}

pub returns-then-target-s : goal.returns-then-target-s
returns-then-target-s c = record { defined = λ k f S l. skilled_char k f _ S _ l _ c.if-target-s.true }

pub returns : goal.returns
returns c = record { defined = λ k f S l. skilled_ship k f _ S _ l _ c.if-target-s.false }
