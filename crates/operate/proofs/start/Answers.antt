-- `operate::start` meets its contract.
use Rattle.operate.proofs.start.Goals as goal
use Rattle.operate.proofs.Snocs.{begun}

pub returns : goal.returns
returns c = record { nothing_yet = begun }
