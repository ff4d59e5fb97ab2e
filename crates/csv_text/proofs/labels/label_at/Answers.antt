use Rattle.csv_text.proofs.labels.label_at.Goals as goal
use Rattle.std.proofs.Common.{◌∙◌}
use borrow.Author.Rules.{sfits_of}
use Rattle.csv_text.proofs.Seeking.{label_inside, short_bytes, told_label}

pub bytes_of-requires : goal.bytes_of-requires
bytes_of-requires c = record { inside = label_inside c.args.bytes.now c.args.labels.now c.requires.good c.args.id c.if-told-labels.true }

pub returns-then-own-id-clause-the_label : goal.returns-then-own-id-clause-the_label
returns-then-own-id-clause-the_label c = c.bytes_of.ensures.span ∙ told_label c.args.bytes.now c.args.labels.now c.requires.good c.args.id (sfits_of c.signed-own.type_inv) c.ranges.id c.signed-own.ensures.defined c.if-told-labels.true c.if-own-id.true

pub returns-then-own-id-clause-short : goal.returns-then-own-id-clause-short
returns-then-own-id-clause-short c = rw c.bytes_of.ensures.span (short_bytes c.args.bytes.now c.args.labels.now c.requires.good c.args.id c.if-told-labels.true)
