-- `fields::any_special` meets its contract.
use Rattle.csv_text.proofs.fields.any_special.Goals as goal
use Rattle.csv_text.proofs.Special.{plain_none, plain_more, plain-all}

pub loop-b-init : goal.loop-b-init
loop-b-init c = plain_none c.args.text.now

pub loop-b-preserved : goal.loop-b-preserved
loop-b-preserved c = plain_more c.loop-b.invariant 0 c.loop-b-test.true c.is_special-found.ensures.defined

pub returns : goal.returns
returns c = record { defined = plain-all c.loop-b.invariant c.loop-b-test.false }
