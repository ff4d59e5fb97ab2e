-- `reach::skill_table` meets its contract. The measure is how many objects are left.
use Rattle.hits.proofs.reach.skill_table.Goals as goal
use Rattle.info.proofs.Elements.{objects_length}
use Rattle.hits.proofs.Telling.{telling_none, telling_more, telling_all}

pub loop-i-init : goal.loop-i-init
loop-i-init c = telling_none c.count_of-objects.ensures.defined (objects_length c.args.fit.now c.args.pairs.now) c.requires.roomy

pub loop-i-preserved : goal.loop-i-preserved
loop-i-preserved c = telling_more c.loop-i.invariant c.loop-i-test.true c.required_skills-row.ensures.defined

pub returns : goal.returns
returns c = record { defined = telling_all c.loop-i.invariant c.loop-i-test.false }
