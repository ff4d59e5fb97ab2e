use Rattle.lines.proofs.FigureLine4.row.Goals as goal
use Rattle.lines.proofs.Rowed.{no_object, no_id, no_high, no_low, more_behind, is-figure}

pub returns-in_err-o : goal.returns-in_err-o
returns-in_err-o c = rw c.from_residual.ensures (record { defined = no_object c.args._at c.args.line.now c.in_err-o.ensures.defined })

pub returns-in_err-a : goal.returns-in_err-a
returns-in_err-a c = rw c.from_residual-in_err-a.ensures (record { defined = no_id c.args._at c.args.line.now _ _ c.in_ok-o.ensures.defined c.in_err-a.ensures.defined })

pub returns-in_err-high : goal.returns-in_err-high
returns-in_err-high c = rw c.from_residual-in_err-high.ensures (record { defined = no_high c.args._at c.args.line.now _ _ c.in_ok-o.ensures.defined _ _ c.in_ok-a.ensures.defined c.in_err-high.ensures.defined })

pub returns-in_err-low : goal.returns-in_err-low
returns-in_err-low c = rw c.from_residual-in_err-low.ensures (record { defined = no_low c.args._at c.args.line.now _ _ c.in_ok-o.ensures.defined _ _ c.in_ok-a.ensures.defined _ _ c.in_ok-high.ensures.defined c.in_err-low.ensures.defined })

pub returns-then-low-line : goal.returns-then-low-line
returns-then-low-line c = record { defined = more_behind c.args._at c.args.line.now _ _ c.in_ok-o.ensures.defined _ _ c.in_ok-a.ensures.defined _ _ c.in_ok-high.ensures.defined _ _ c.in_ok-low.ensures.defined c.in_ok-low.ensures.inside c.if-low-line.true }

pub returns : goal.returns
returns c = record { defined = is-figure c.args._at c.args.line.now _ _ c.in_ok-o.ensures.defined _ _ c.in_ok-a.ensures.defined _ _ c.in_ok-high.ensures.defined _ _ c.in_ok-low.ensures.defined c.in_ok-low.ensures.inside c.if-low-line.false }
