-- `build::set_bit` meets its contract.
use Rattle.maps.proofs.build.set_bit.Goals as goal
use Rattle.maps.proofs.Bits.{bit_written}

pub returns : goal.returns
returns c = record { defined = bit_written c.args.words.now c.args.at c.args.i }
