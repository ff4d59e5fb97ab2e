use Rattle.lines.proofs.LabelLine3.row.Goals as goal
use Rattle.lines.proofs.Rowed.{no_label, is_label}

pub returns-in_err-value : goal.returns-in_err-value
returns-in_err-value c = rw c.from_residual.ensures (record { defined = no_label c.args.at c.args.line.now c.in_err-value.ensures.defined })

pub returns : goal.returns
returns c = record { defined = is_label c.args.at c.args.line.now _ _ c.in_ok-value.ensures.defined c.in_ok-value.ensures.inside }
