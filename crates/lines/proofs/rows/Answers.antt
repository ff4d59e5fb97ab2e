-- `rows` meets its contract: what is left of the text decides.
use Rattle.lines.proofs.rows.Goals as goal
use Rattle.std.proofs.Common.{arith}
use Rattle.lines.proofs.Rowed.{laying_start, laying_all, laying_full, laying_bad, laying_more, not_read, is_read}
use Rattle.std.proofs.lemmas.Result.{err_from_is_err_and}

pub loop-at-init : goal.loop-at-init
loop-at-init g c = laying_start _ _

pub overflow_add-bad : goal.overflow_add-bad
overflow_add-bad g c = record { fits = omega (arith, c.loop-at.invariant.few) }

pub returns-then-out-count-clause-defined : goal.returns-then-out-count-clause-defined
returns-then-out-count-clause-defined g c = laying_full _ _ c.loop-at.invariant c.loop-at-test.true c.if-out-count.true

pub returns-in_err-out-clause-defined : goal.returns-in_err-out-clause-defined
returns-in_err-out-clause-defined g c =
    let p = err_from_is_err_and c.from_residual.result c.from_residual.ensures.1 in
    let q = not_read c.row.result c.in_err-out.ensures.value in
    rw (p.1, p.2, q.1) (laying_bad _ _ c.loop-at.invariant c.loop-at-test.true (omega (arith, c.if-out-count.false)) _ c.line_length.ensures.defined c.line_length.ensures.inside c.without_return-line.ensures.defined c.row.ensures.defined q.0)

pub loop-at-preserved : goal.loop-at-preserved
loop-at-preserved g c = laying_more _ _ c.loop-at.invariant c.loop-at-test.true (omega (arith, c.if-out-count.false)) _ c.line_length.ensures.defined c.line_length.ensures.inside c.without_return-line.ensures.defined c.row.ensures.defined _ (is_read c.row.result _ _ c.in_ok-out.ensures.value)

pub returns-clause-defined : goal.returns-clause-defined
returns-clause-defined g c = laying_all _ _ c.loop-at.invariant c.loop-at-test.false
