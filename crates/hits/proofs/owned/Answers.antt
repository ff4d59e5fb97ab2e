-- `hits::owned` meets its contract.
use Rattle.hits.proofs.owned.Goals as goal
use Rattle.hits.proofs.Aims as aims

pub returns : goal.returns
returns c = record { defined = λ k f S. aims.owned k f _ S _ }
