-- `hundredths::counted` meets its contract, by the exponent's field.
use Rattle.numbers.proofs.hundredths.counted.Goals as goal
use Rattle.numbers.proofs.Counts.{at_zero, high, deep, one_more, counts, limits}

pub returns-then-field-eq0 : goal.returns-then-field-eq0
returns-then-field-eq0 c = record { defined = at_zero _ _ c.requires.of_52_bits c.if-field-eq0.true }

pub returns-then-field-ge1075 : goal.returns-then-field-ge1075
returns-then-field-ge1075 c = record { defined = high _ _ c.if-field-ge1075.true }

pub returns-then-shift-ge61 : goal.returns-then-shift-ge61
returns-then-shift-ge61 c = record { defined = deep _ _ c.requires.of_52_bits c.if-field-eq0.false c.if-field-ge1075.false c.if-shift-ge61.true }

pub overflow_add-count : goal.overflow_add-count
overflow_add-count c = record { fits = one_more _ _ c.requires.of_52_bits }

pub returns-then-count-lt-LIMIT : goal.returns-then-count-lt-LIMIT
returns-then-count-lt-LIMIT c = record { defined = counts _ _ c.requires.of_52_bits c.if-field-eq0.false c.if-field-ge1075.false c.if-count-lt-LIMIT.true }

pub returns : goal.returns
returns c = record { defined = limits _ _ c.requires.of_52_bits c.if-field-eq0.false c.if-field-ge1075.false c.if-count-lt-LIMIT.false }
