use Rattle.lines.proofs.without_return.Goals as goal
use Rattle.std.proofs.Common.{ap, ◌∙◌, Bor, ℕ, List}
use Rattle.lines.proofs.Rowed.{without_suffix}

pub returns-clause-defined : goal.returns-clause-defined
returns-clause-defined c = ap (λ (x : Bor (List ℕ)). x.now) c.unwrap_or.ensures ∙ without_suffix c.args.line c.strip_suffix.result c.strip_suffix.ensures.cases
