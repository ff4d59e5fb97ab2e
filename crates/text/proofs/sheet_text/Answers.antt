-- `text::sheet_text` meets its contract: longer input is refused, other bytes are calculated. Assumes nothing.
use Rattle.text.proofs.sheet_text.Goals as goal
use mathlib.Core.Path.{refl}
use Rattle.rules.specs.declared.Refusal.TheVariants.{Shape}
use Rattle.text.proofs.Texts.{written, longer, all_read}

pub returns-then-more-sheet : goal.returns-then-more-sheet
returns-then-more-sheet c = let both = written c.args.sheet.now c.args.more (longer c.args.sheet.now c.args.more c.if-more-sheet.true) (c.refusal.ensures.the_line (Shape 0) refl refl) in record { the_text = both.0; its_length = both.1.0; inside = both.1.1 }

pub returns : goal.returns
returns c = let both = written c.args.sheet.now c.args.more (all_read c.args.sheet.now c.args.more c.if-more-sheet.false) c.calculated_text.ensures.the_listing in record { the_text = both.0; its_length = both.1.0; inside = both.1.1 }
