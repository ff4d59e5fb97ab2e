-- `reading::entries::origin_of` meets its contract.
use Rattle.reading.proofs.entries.origin_of.Goals as goal
use Rattle.reading.proofs.Decodes.{from_effect, from_buff}

pub returns-then-row-eq0 : goal.returns-then-row-eq0
returns-then-row-eq0 c = record { defined = from_effect c.if-row-eq0.true c.signed.result c.signed-then-row-eq0.result c.signed.ensures.and_back c.category_of.ensures.defined c.signed-then-row-eq0.ensures.and_back }

pub returns : goal.returns
returns c = record { defined = from_buff c.if-row-eq0.false c.signed-2.result c.signed-2.ensures.and_back }
