-- `given::has_bits` meets its contract. Assumes nothing.
use Rattle.given.proofs.has_bits.Goals as goal
use Rattle.given.proofs.Rights.{finite_number, bits_same}

pub float_to_bits-result : goal.float_to_bits-result
float_to_bits-result c = finite_number _ c.requires.numbers.0

pub float_to_bits-result-2 : goal.float_to_bits-result-2
float_to_bits-result-2 c = finite_number _ c.requires.numbers.1

pub returns : goal.returns
returns c = record { defined = bits_same _ _ c.well_formed.0.1 c.well_formed.1.0.1 }
