-- `bodies::put_book` meets its contract. Assumes nothing.
use Rattle.std.proofs.Common.{arith}
use Rattle.put_tables.proofs.Whole.{five_put}
use Rattle.put_tables.proofs.bodies.put_book.Goals as goal

pub returns : goal.returns
returns c = record {
  written = five_put _ _ _ _ _ _ c.put_attributes-second.ensures.written c.put_rows-third.ensures.written c.put_rows-fourth.ensures.written c.put_rows-fifth.ensures.written c.put_rows.ensures.written;
  end = omega arith;
}
