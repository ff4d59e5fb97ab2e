-- `empty` meets its contract. Assumes nothing.
use Rattle.gather.proofs.empty.Goals as goal
use mathlib.Core.Path.{refl}
use Rattle.operate.proofs.Inserts as inserts

pub returns-clause-defined : goal.returns-clause-defined
returns-clause-defined c = λ counts room s₀ f₀ i high op m s f pv ps nv ns t k. record { keeping = k; running = c.start.ensures.nothing_yet high op t; positive = inserts.empty refl; negative = inserts.empty refl }
