-- `operate::put_copies` meets its contract: k of the copies are put in.
use Rattle.operate.proofs.put_copies.Goals as goal
use Rattle.operate.proofs.Copies.{none_put, room, one_put, all_put}

pub loop-k-init : goal.loop-k-init
loop-k-init c = (c.requires.eight.0, c.requires.eight.1, none_put _ _ _ _ _)

pub insert-n-requires : goal.insert-n-requires
insert-n-requires c = record { eight = (c.loop-k.invariant.0, c.loop-k.invariant.1) }

pub overflow_add-source : goal.overflow_add-source
overflow_add-source c = record { fits = room c.loop-k.invariant.2 c.loop-k-test.true c.requires.counted }

pub loop-k-preserved : goal.loop-k-preserved
loop-k-preserved c = (c.insert-n.ensures.eight_still.0, c.insert-n.ensures.eight_still.1, one_put c.loop-k.invariant.2 c.loop-k-test.true c.insert-n.ensures.one_more)

pub returns : goal.returns
returns c = record {
  so_many_more = all_put c.loop-k.invariant.2 c.loop-k-test.false;
  eight_still = (c.loop-k.invariant.0, c.loop-k.invariant.1);
}
