-- `labels::all_allowed` meets its contract.
use Rattle.csv_text.proofs.labels.all_allowed.Goals as goal
use Rattle.csv_text.proofs.Judging.{passed_none, passed-more, passed-all}

pub loop-b-init : goal.loop-b-init
loop-b-init c = passed_none c.args.text.now

pub loop-b-preserved : goal.loop-b-preserved
loop-b-preserved c = passed-more c.loop-b.invariant 0 c.loop-b-test.true c.is_allowed-good.ensures.defined

pub returns : goal.returns
returns c = record { defined = passed-all c.loop-b.invariant c.loop-b-test.false }
