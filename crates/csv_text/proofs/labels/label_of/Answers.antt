use Rattle.csv_text.proofs.labels.label_of.Goals as goal
use Rattle.csv_text.proofs.labels.label_of.Goals.{then-at-labels+else-own-id, else-at-labels}
use Rattle.std.proofs.Common.{◌∙◌}
use borrow.Author.Rules.{sfits_of}
use Rattle.csv_text.proofs.Seeking.{lower_own, label_inside, short_bytes, told_label, other_label, label_past}

pub bytes_of-requires : goal.bytes_of-requires
bytes_of-requires c = record { inside = label_inside c.args.bytes.now c.args.labels.now c.requires.good c.args.id c.if-at-labels.true }

pub returns-then-own-id-clause-the_label : goal.returns-then-own-id-clause-the_label
returns-then-own-id-clause-the_label c = c.bytes_of.ensures.span ∙ told_label c.args.bytes.now c.args.labels.now c.requires.good c.args.id (sfits_of c.signed-own.type_inv) c.ranges.id c.signed-own.ensures.defined c.if-at-labels.true c.if-own-id.true

pub returns-then-own-id-clause-short : goal.returns-then-own-id-clause-short
returns-then-own-id-clause-short c = rw c.bytes_of.ensures.span (short_bytes c.args.bytes.now c.args.labels.now c.requires.good c.args.id c.if-at-labels.true)

pub returns-clause-the_label : goal.returns-clause-the_label
returns-clause-the_label c = elim c.if-at-labels.branch [
  | then-at-labels+else-own-id w ↦ other_label c.args.bytes.now c.args.labels.now c.requires.good c.args.id (sfits_of w.signed-own.type_inv) c.ranges.id w.signed-own.ensures.defined (lower_own c.args.labels.now c.args.id c.ranges.id c.lower-at.ensures.defined) w.if-own-id.false
  | else-at-labels w ↦ label_past c.args.bytes.now c.args.labels.now c.requires.good c.args.id (lower_own c.args.labels.now c.args.id c.ranges.id c.lower-at.ensures.defined) w.if-at-labels.false
]
