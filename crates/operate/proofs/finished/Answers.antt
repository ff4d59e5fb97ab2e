-- `operate::finished` meets its contract.
use Rattle.operate.proofs.finished.Goals as goal
use mathlib.Core.Path.{◌∙◌}
use Rattle.operate.proofs.Applied.{not_plain, not_positive, whole}

pub returns-in_err-plain : goal.returns-in_err-plain
returns-in_err-plain c = record { defined = λ high op v g R p n u. c.from_residual.ensures ∙ not_plain R u c.in_err-plain.was }

pub returns-in_err-w : goal.returns-in_err-w
returns-in_err-w c = record { defined = λ high op v g R p n u. c.from_residual-in_err-w.ensures ∙ not_positive R u c.in_ok-plain.was (c.weigh.ensures.defined_of_all _ p) c.in_err-w.was }

pub returns : goal.returns
returns c = record { defined = λ high op v g R p n u. whole R u c.in_ok-plain.was (c.weigh.ensures.defined_of_all _ p) c.in_ok-w.was (c.weigh-2.ensures.defined_of_all _ n) }
