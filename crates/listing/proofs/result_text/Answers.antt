-- `listing::result_text` meets its contract: number 0 is the rows, another the one line. Assumes nothing.
use Rattle.listing.proofs.result_text.Goals as goal
use Rattle.listing.proofs.Told.{told-done, told-refused}

pub returns-then-number-eq0 : goal.returns-then-number-eq0
returns-then-number-eq0 c = record { the_listing = told-done c.if-number-eq0.true c.rows_listed.ensures.the_lines }

pub returns : goal.returns
returns c = record { the_listing = told-refused c.if-number-eq0.false c.refusal.ensures.the_line }
