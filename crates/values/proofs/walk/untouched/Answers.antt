-- `walk::untouched` meets its contract.
use Rattle.values.proofs.walk.untouched.Goals as goal

pub returns-then-left-ne0 : goal.returns-then-left-ne0
returns-then-left-ne0 c = record { untouched = λ e. let bare = c.is_bare.ensures.bare e in record { empty = bare.empty; free = bare.free; deep = c.if-left-ne0.true } }
