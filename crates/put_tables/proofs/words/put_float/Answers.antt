-- `words::put_float` meets its contract. Assumes nothing.
use Rattle.std.proofs.Common.{refl, ◌∙◌}
use Rattle.tables.proofs.Numbers.{float-length}
use Rattle.put_tables.proofs.Steps.{number-bits, float_low}
use Rattle.listing.proofs.Puts.{copied}
use Rattle.put_tables.proofs.words.put_float.Goals as goal

pub float_to_bits-x : goal.float_to_bits-x
float_to_bits-x c = number-bits c.args.x c.requires.finite

pub returns : goal.returns
returns c = record {
  written = copied c.args.at 8 c.args.bytes.now (c.copy_from_slice.ensures.after ∙ c.to_le_bytes.ensures ∙ float_low c.args.x) (float-length c.args.x) c.requires.room;
  end = refl;
}
