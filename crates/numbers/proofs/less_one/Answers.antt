-- `numbers::less_one` meets its contract.
use Rattle.numbers.proofs.less_one.Goals as goal
use Rattle.std.proofs.Common.{sym, ◌∙◌}
use lib.Ieee
use Rattle.numbers.proofs.Steps.{bound, refused}

pub returns-in_err-s : goal.returns-in_err-s
unfolding Ieee.of_bits
returns-in_err-s c = record { defined = c.from_residual.ensures ∙ sym (refused _ c.in_err-s.was) }

pub returns : goal.returns
unfolding Ieee.of_bits
returns c = record { defined = c.difference.ensures.defined ∙ sym (bound _ c.in_ok-s.was) }
