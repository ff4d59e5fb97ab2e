-- `figures::put_bits` meets its contract: sixteen digits. Assumes nothing.
use Rattle.figures.proofs.put_bits.Goals as goal
use native.Mathlib.Omega.{arith}
use Rattle.listing.proofs.Puts.{renamed}
use Rattle.figures.proofs.Figured.{sixteen, bits_are}

pub put_text-requires : goal.put_text-requires
put_text-requires c = record { room = omega (arith, c.requires.room, c.hex-n.ensures.in_bounds.1, sixteen c.args.bits c.hex-n.result c.hex-n.ensures.len (omega (arith, c.ranges))) }

pub returns : goal.returns
returns c = record {
  added = renamed _ (bits_are c.args.bits c.hex-n.result c.hex-n.ensures.digits (sixteen c.args.bits c.hex-n.result c.hex-n.ensures.len (omega (arith, c.ranges)))) c.put_text.ensures.added;
  within = omega (arith, c.put_text.ensures.next, c.hex-n.ensures.in_bounds.1, sixteen c.args.bits c.hex-n.result c.hex-n.ensures.len (omega (arith, c.ranges)));
}
