-- `hits::located` meets its contract.
use Rattle.hits.proofs.located.Goals as goal
use Rattle.hits.proofs.Aims.{aims_is, located_ship, located_char, located_else}

pub returns-then-target-eq0 : goal.returns-then-target-eq0
returns-then-target-eq0 c = record { defined = λ k f S l. located_ship k f _ S _ l _ c.if-target-eq0.true }

pub returns-then-target-s : goal.returns-then-target-s
returns-then-target-s c = record { defined = λ k f S l. located_char k f _ S _ l _ c.if-target-s.true }

pub returns : goal.returns
returns c = record { defined = λ k f S l. aims_is c.one.ensures.defined (located_else k f _ S _ l _ c.if-target-eq0.false c.if-target-s.false) }
