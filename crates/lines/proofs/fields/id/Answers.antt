use Rattle.lines.proofs.fields.id.Goals as goal
use Rattle.std.proofs.Common.{◌∙◌}
use native.Mathlib.Omega.{arith}
use Rattle.lines.proofs.Fielded.{id-none, id-minus, id-plain, is_negated}

pub returns-in_err-value-clause-defined : goal.returns-in_err-value-clause-defined
returns-in_err-value-clause-defined c = rw c.from_residual.ensures (id-none c.args.at c.args.text.now c.if-begins.ensures.defined c.in_err-value.ensures.defined)

pub returns-then-begins-clause-defined : goal.returns-then-begins-clause-defined
returns-then-begins-clause-defined c = id-minus c.args.at c.args.text.now _ _ _ c.if-begins.ensures.defined (is_negated _ _ c.wrapping_neg.ensures (omega arith) c.wrapping_neg.type_inv) c.in_ok-value.ensures.defined

pub returns-clause-defined : goal.returns-clause-defined
returns-clause-defined c = c.natural-2.ensures.defined ∙ id-plain c.args.at c.args.text.now c.if-begins.ensures.defined
