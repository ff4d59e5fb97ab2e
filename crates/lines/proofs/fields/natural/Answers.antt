-- `fields::natural` meets its contract.
use Rattle.lines.proofs.fields.natural.Goals as goal
use Rattle.lines.proofs.fields.natural.Goals.{then-next-at-via-then-next-at, then-next-at-via-else-next-at+then-from-value, then-next-at-via-else-next-at+else-from-value+then-not-begins}
use native.Mathlib.Omega.{arith}
use mathlib.Core.Path.{sym, ◌∙◌}
use Rattle.lines.proofs.Fielded.{natural_here, no_digits, too_large, no_space}

pub returns-then-next-at-clause-defined : goal.returns-then-next-at-clause-defined
returns-then-next-at-clause-defined c = let e = c.digits-value.ensures in elim c.then-next-at.branch [
  | then-next-at-via-then-next-at w ↦ no_digits c.args.most c.args.at _ e.defined e.onward e.inside w.if-next-at.true
  | then-next-at-via-else-next-at+then-from-value w ↦ too_large c.args.most c.args.at _ e.defined e.onward e.inside (omega (arith, w.if-from-value.true, w.from.ensures))
  | then-next-at-via-else-next-at+else-from-value+then-not-begins w ↦ no_space c.args.most c.args.at _ e.defined e.onward e.inside (sym w.begins.ensures.defined ∙ w.if-not-begins.true)
]

pub returns-clause-defined : goal.returns-clause-defined
returns-clause-defined c = let e = c.digits-value.ensures in natural_here c.args.most c.args.at _ e.defined e.onward e.inside c.if-next-at.false (omega (arith, c.if-from-value.false, c.from.ensures)) (sym c.begins.ensures.defined ∙ c.if-not-begins.false)
