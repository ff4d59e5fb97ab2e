-- What the program `export` says, of a sheet and a text of labels. Definitions only.
use Rattle.std.specs.Prelude.{ℕ, suc, List}
use Rattle.rules.specs.Answer.{refused}
use Rattle.rules.specs.Listing.{ascii, listing}
use Rattle.rules.specs.Outcome.{outcome}
use Rattle.rules.specs.declared.Refusal.TheVariants.{Room}
use Rattle.csv_text.specs.Labels.{Export, text, engine, label, full, export_of}
use Rattle.lines.specs.Lines.{Rows, rows, bad, label_lines}
use Rattle.said.specs.Said.{Says, answer, refusal, bad_line}
use Rattle.text.specs.SheetText.{rooms}

-- the most labels
abbrev pub labels_lent : ℕ
labels_lent = 4096

-- LABEL: its place is the label's line, counted from 0
abbrev pub bad_label_line : ℕ → List ℕ
bad_label_line i = bad_line (ascii "labels, line ") (suc i) (ascii ": over 64 bytes, a byte that is not printable, or an id that does not ascend\n")

-- the text; or 01's line of a refusal, or the bad label
abbrev pub export_says : Export → Says
export_says (text d t) = answer t
export_says (engine x) = refusal (listing (refused x))
export_says (label i) = refusal (bad_label_line i)
export_says full = refusal (listing (refused (Room 8)))

-- the labels where they stand in their text; or its first bad line
abbrev pub with_labels : ℕ → List ℕ → List ℕ → Rows → Says
with_labels n sheet labels (rows ls) = export_says (export_of (outcome sheet rooms) ls labels n)
with_labels n sheet labels (bad i) = refusal (bad_line (ascii "labels, line ") i (ascii ": not an id, a space and a label\n"))

-- with n bytes for the text
unfoldable pub export_text : ℕ → List ℕ → List ℕ → Says
export_text n sheet labels = with_labels n sheet labels (label_lines labels_lent labels)
