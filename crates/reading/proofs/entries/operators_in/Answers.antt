-- `reading::entries::operators_in` meets its contract: a code is marked, or what is left decides.
use Rattle.reading.proofs.entries.operators_in.Goals as goal
use Rattle.reading.proofs.entries.operators_in.Goals.{then-code-lt-OPERATORS, else-code-lt-OPERATORS}
use Rattle.reading.proofs.Decodes.{marks_none, marks_past, marks_on, marks_all}

pub loop-i-init : goal.loop-i-init
loop-i-init c = marks_none c.args.entries.now c.args.first c.args.end

pub loop-i-preserved : goal.loop-i-preserved
loop-i-preserved c = elim c.if-code-lt-OPERATORS.branch [
  | then-code-lt-OPERATORS w ↦ rw w.marks-is (marks_on c.args.entries.now c.args.first c.args.end c.loop-i.i c.requires.inside c.loop-i.invariant c.loop-i-test.true c.index-code.ensures.defined.0 w.if-code-lt-OPERATORS.true)
  | else-code-lt-OPERATORS w ↦ rw w.marks-is (marks_past c.args.entries.now c.args.first c.args.end c.loop-i.i c.requires.inside c.loop-i.invariant c.loop-i-test.true c.index-code.ensures.defined.0 w.if-code-lt-OPERATORS.false)
]

pub returns : goal.returns
returns c = record { marked = marks_all c.args.entries.now c.args.first c.args.end c.loop-i.i c.requires.inside c.loop-i.invariant c.loop-i-test.false }
