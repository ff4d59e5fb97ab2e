-- `text::calculated` meets its contract: every list is lent 4,096 rows, and what comes back is told.
use Rattle.text.proofs.calculated.Goals as goal
use native.Mathlib.Omega.{arith}
use mathlib.Core.Path.{refl}
use Rattle.text.proofs.Tells.{lent-rooms, few, tells}

pub returns : goal.returns
returns c = record {
  tells = tells _ _ _ c.dogma_calculate.ensures.the_definitions_answer c.dogma_calculate.auto.rows c.dogma_calculate.auto.values (lent-rooms _ refl refl (omega arith) refl (omega arith) refl refl refl refl refl);
  few = few _ _ _ c.dogma_calculate.ensures.the_definitions_answer c.dogma_calculate.auto.rows c.dogma_calculate.auto.values (lent-rooms _ refl refl (omega arith) refl (omega arith) refl refl refl refl refl);
}
