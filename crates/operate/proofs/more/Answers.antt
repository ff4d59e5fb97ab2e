-- `operate::more` meets its contract.
use Rattle.operate.proofs.more.Goals as goal
use mathlib.Core.Path.{refl}
use Rattle.operate.proofs.Snocs.{none_more, some_more}

pub returns-then-quantity-eq0 : goal.returns-then-quantity-eq0
returns-then-quantity-eq0 c = record { one_more = none_more _ _ _ _ c.if-quantity-eq0.true }

pub returns : goal.returns
returns c = record { one_more = some_more _ _ _ _ c.if-quantity-eq0.false c.stepped.ensures.defined refl }
