use Rattle.lines.proofs.line_length.Goals as goal
use Rattle.std.proofs.Common.{◌∙◌, ap, length, ℕ}
use Rattle.std.specs.Prelude.{Option}
use Rattle.std.specs.Option.{unwrap_or}
use Rattle.lines.proofs.Rowed.{length_by}

pub returns-clause-defined : goal.returns-clause-defined
returns-clause-defined c = c.unwrap_or.ensures ∙ ap (λ (o : Option ℕ). unwrap_or o (length c.args.text.now)) c.line_feed.ensures.mirrored ∙ length_by c.args.text.now
