-- `rows::source_numbers` meets its contract. Assumes nothing.
use Rattle.sources.proofs.rows.source_numbers.Goals as goal
use Rattle.sources.proofs.Written.{row}

pub returns : goal.returns
returns c = record { defined = row c.args.s c.from_numbers-a.ensures.defined c.optional_numbers-b.ensures.defined c.optional_numbers-c.ensures.defined c.operator_code-code.ensures.defined c.flag-penalised.ensures.defined c.flag-applied.ensures.defined c.state_code-needed.ensures.defined }
