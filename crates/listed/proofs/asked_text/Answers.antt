-- `listed::asked_text` meets its contract. Assumes nothing.
use Rattle.listed.proofs.asked_text.Goals as goal
use Rattle.listed.proofs.Asking.{as_asked, not-asked}

pub returns-then-bits : goal.returns-then-bits
returns-then-bits c = record {
  the_text = as_asked c.args.bits c.args.sheet.now c.args.more c.if-bits.true c.sheet_figures.ensures.the_text;
  inside = c.sheet_figures.ensures.inside;
}

pub returns : goal.returns
returns c = record {
  the_text = not-asked c.args.bits c.args.sheet.now c.args.more c.if-bits.false c.sheet_text.ensures.the_text;
  inside = c.sheet_text.ensures.inside;
}
