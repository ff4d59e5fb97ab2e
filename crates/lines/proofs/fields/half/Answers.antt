use Rattle.lines.proofs.fields.half.Goals as goal
use Rattle.lines.proofs.Fielded.{half_here, half_not}
use borrow.Author.Tests.{eq-eqb, ne_eqb}

pub returns-then-next-at-ne8-clause-defined : goal.returns-then-next-at-ne8-clause-defined
returns-then-next-at-ne8-clause-defined c = half_not c.args.at _ c.digits-value.ensures.defined c.digits-value.ensures.onward c.digits-value.ensures.inside (ne_eqb _ 8 c.if-next-at-ne8.true)

pub returns-clause-defined : goal.returns-clause-defined
returns-clause-defined c = half_here c.args.at _ c.digits-value.ensures.defined c.digits-value.ensures.onward c.digits-value.ensures.inside (eq-eqb _ 8 c.if-next-at-ne8.false)
