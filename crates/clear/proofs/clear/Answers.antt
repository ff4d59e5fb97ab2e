-- `clear` meets its contract. Assumes nothing.
use lib.Ieee.{of_bits}
use Rattle.clear.proofs.clear.Goals as goal

pub returns : goal.returns
unfolding of_bits
returns c = record {
  collected = c.zero_from.ensures.cleared;
  collected_values = c.zero_from-2.ensures.cleared;
  rows = c.zero_from-3.ensures.cleared;
  bases = c.zero_from-4.ensures.cleared;
  values = c.zero_from-5.ensures.cleared;
  entries = c.zero_from-6.ensures.cleared;
  entry_values = c.zero_from-7.ensures.cleared;
  plain = c.zero_from-8.ensures.cleared;
  sources = c.zero_from-9.ensures.cleared;
  source_values = c.zero_from-10.ensures.cleared;
  states = c.zero_states.ensures.cleared;
  whole = c.zero_states.ensures.whole;
}
