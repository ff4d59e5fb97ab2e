-- `wanted::worth` meets its contract.
use Rattle.hits.proofs.wanted.worth.Goals as goal
use Rattle.hits.proofs.Skipping.{aims_unwanted}

pub returns-then-marked-eq0 : goal.returns-then-marked-eq0
returns-then-marked-eq0 c = record { same = aims_unwanted _ _ c.args.wanted.now _ c.in-Requiring.is c.if-marked-eq0.true c.none.ensures.defined }
