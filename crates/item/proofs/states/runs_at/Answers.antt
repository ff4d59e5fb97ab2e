-- `states::runs_at` meets its contract. Assumes nothing.
use Rattle.item.proofs.states.runs_at.Goals as goal

pub returns : goal.returns
returns c = record { defined = rw (c.state_code.ensures.defined, c.lowest_state-lowest.ensures.defined) }
