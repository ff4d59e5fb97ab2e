-- `words::put_word` meets its contract. Assumes nothing.
use Rattle.std.proofs.Common.{refl, ◌∙◌}
use Rattle.tables.proofs.Numbers.{word-length}
use Rattle.put_tables.proofs.Steps.{word_low}
use Rattle.listing.proofs.Puts.{copied}
use Rattle.put_tables.proofs.words.put_word.Goals as goal

pub returns : goal.returns
returns c = record {
  written = copied c.args.at 4 c.args.bytes.now (c.copy_from_slice.ensures.after ∙ c.to_le_bytes.ensures ∙ word_low c.args.x) (word-length c.args.x) c.requires.room;
  end = refl;
}
