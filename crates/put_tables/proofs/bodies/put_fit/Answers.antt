-- `bodies::put_fit` meets its contract. Assumes nothing.
use Rattle.std.proofs.Common.{arith}
use Rattle.listing.proofs.Puts.{renamed}
use Rattle.put_tables.proofs.Steps.{words_rows}
use Rattle.put_tables.proofs.Whole.{five_put}
use Rattle.put_tables.proofs.bodies.put_fit.Goals as goal

pub returns : goal.returns
returns c = record {
  written = five_put _ _ _ _ _ _ c.put_rows-seventh.ensures.written c.put_values-eighth.ensures.written (renamed _ (words_rows c.args.fit.ids.now) c.put_words-ninth.ensures.written) c.put_values-tenth.ensures.written c.put_rows.ensures.written;
  end = omega arith;
}
