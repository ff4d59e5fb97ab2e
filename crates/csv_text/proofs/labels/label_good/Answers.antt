-- `labels::label_good` meets its contract. Assumes nothing.
use Rattle.csv_text.proofs.labels.label_good.Goals as goal
use native.Mathlib.Omega.{arith}
use mathlib.Core.Path.{ap, ◌∙◌}
use Rattle.laws.specs.Lists.{every?}
use Rattle.csv_text.specs.Labels.{allowed}
use Rattle.csv_text.proofs.Judging.{too_long, outside, by_bytes, bytes_read, all_clean}

pub returns-then-count-gt-LABEL_MOST : goal.returns-then-count-gt-LABEL_MOST
returns-then-count-gt-LABEL_MOST c = record { defined = too_long c.args.bytes.now c.args.label (omega (arith, c.if-count-gt-LABEL_MOST.true, c.index-count.ensures.defined.0)) }

pub returns-then-bytes-end : goal.returns-then-bytes-end
returns-then-bytes-end c = record { defined = outside c.args.bytes.now c.args.label (omega (arith, c.if-count-gt-LABEL_MOST.false, c.index-count.ensures.defined.0)) (omega (arith, c.if-bytes-end.true, c.index-first.ensures.defined.0, c.index-count.ensures.defined.0)) }

pub returns-then-clean : goal.returns-then-clean
returns-then-clean c = record { defined = by_bytes c.args.bytes.now c.args.label (omega (arith, c.if-count-gt-LABEL_MOST.false, c.index-count.ensures.defined.0)) (omega (arith, c.if-bytes-end.false, c.index-first.ensures.defined.0, c.index-count.ensures.defined.0)) (all_clean c.args.bytes.now c.args.label (c.requires.told c.if-clean.true)) }

pub returns : goal.returns
returns c = record { defined = by_bytes c.args.bytes.now c.args.label (omega (arith, c.if-count-gt-LABEL_MOST.false, c.index-count.ensures.defined.0)) (omega (arith, c.if-bytes-end.false, c.index-first.ensures.defined.0, c.index-count.ensures.defined.0)) (c.all_allowed.ensures.defined ∙ ap (every? allowed) (bytes_read c.args.bytes.now c.args.label c.index-first.ensures.defined.0 c.index-count.ensures.defined.0)) }
