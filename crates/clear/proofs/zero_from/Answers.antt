-- `zero_from` meets its contract. Assumes nothing.
use Rattle.std.proofs.Common.{refl}
use Rattle.clear.proofs.Zeros.{clearing_none, clearing_next, clearing_end}
use Rattle.clear.proofs.zero_from.Goals as goal

pub loop-i-init : goal.loop-i-init
loop-i-init g c = clearing_none c.args.zero _ _

pub loop-i-preserved : goal.loop-i-preserved
loop-i-preserved g c = clearing_next c.args.zero c.loop-i.invariant c.loop-i-test.true refl

pub returns : goal.returns
returns g c = record { cleared = clearing_end c.args.zero c.loop-i.invariant c.loop-i-test.false }
