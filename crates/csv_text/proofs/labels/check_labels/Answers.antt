-- `labels::check_labels` meets its contract: what is left decides. The measure is how many labels are left.
use Rattle.csv_text.proofs.labels.check_labels.Goals as goal
use mathlib.Core.Path.{sym, ◌∙◌}
use Rattle.csv_text.proofs.Judging.{scanned_none, scanned_more, scanned_bad, scanned_all}

pub loop-i-init : goal.loop-i-init
loop-i-init c = scanned_none c.args.bytes.now c.args.labels.now

pub stands-after-requires : goal.stands-after-requires
stands-after-requires c = record { inside = c.loop-i-test.true }

pub label_good-requires : goal.label_good-requires
label_good-requires c = record { told = λ e. sym c.all_allowed-clean.ensures.defined ∙ e }

pub returns-then-not-good : goal.returns-then-not-good
returns-then-not-good c = record { defined = scanned_bad c.args.bytes.now c.args.labels.now c.loop-i.invariant c.loop-i-test.true c.stands-after.ensures.defined c.label_good.ensures.defined c.if-not-good.true }

pub loop-i-preserved : goal.loop-i-preserved
loop-i-preserved c = scanned_more c.args.bytes.now c.args.labels.now c.loop-i.invariant c.loop-i-test.true c.stands-after.ensures.defined c.label_good.ensures.defined c.if-not-good.false

pub returns : goal.returns
returns c = record { defined = scanned_all c.args.bytes.now c.args.labels.now c.loop-i.invariant c.loop-i-test.false }
