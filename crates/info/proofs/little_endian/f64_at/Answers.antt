-- `little_endian::f64_at` meets its contract. Assumes nothing.
use Rattle.info.proofs.little_endian.f64_at.Goals as goal
use mathlib.Core.Path.{ap, ◌∙◌}
use lib.Ieee.{binary64, of_bits}

pub returns : goal.returns
returns c = record { defined = c.float_of.ensures.defined ∙ ap (of_bits binary64) c.u64_at.ensures.defined }
