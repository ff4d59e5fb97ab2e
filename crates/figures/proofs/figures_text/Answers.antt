-- `figures::figures_text` meets its contract: number 0 is the rows, another the one line. Assumes nothing.
use Rattle.figures.proofs.figures_text.Goals as goal
use Rattle.figures.proofs.Figured.{told-done, told-refused}

pub returns-then-number-eq0 : goal.returns-then-number-eq0
returns-then-number-eq0 c = record { the_figures = told-done c.if-number-eq0.true c.rows_figured.ensures.the_lines }

pub returns : goal.returns
returns c = record { the_figures = told-refused c.if-number-eq0.false c.refusal.ensures.the_line }
