-- `hundredths::in_hundredths` meets its contract, by the count that the bit pattern gives.
use Rattle.numbers.proofs.hundredths.in_hundredths.Goals as goal
use Rattle.numbers.proofs.HundredthsLaws.{star_of_nan, no_nan, star, plain, signed}

pub returns-then-x : goal.returns-then-x
returns-then-x c = record { defined = star_of_nan _ c.if-x.true }

pub float_to_bits-pattern : goal.float_to_bits-pattern
float_to_bits-pattern c = no_nan _ c.if-x.false

pub returns-then-count-ge-LIMIT : goal.returns-then-count-ge-LIMIT
returns-then-count-ge-LIMIT c = record { defined = star _ c.well_formed.0.1 c.if-x.false c.counted-count.ensures.defined c.if-count-ge-LIMIT.true }

pub returns-then-count-eq0 : goal.returns-then-count-eq0
returns-then-count-eq0 c = record { defined = plain _ c.well_formed.0.1 c.if-x.false c.counted-count.ensures.defined c.if-count-ge-LIMIT.false c.if-count-eq0.true }

pub returns : goal.returns
returns c = record { defined = signed _ c.well_formed.0.1 c.if-x.false c.counted-count.ensures.defined c.if-count-ge-LIMIT.false c.if-count-eq0.false }
