-- `lines::has_key` meets its contract.
use Rattle.given.proofs.lines.has_key.Goals as goal
use mir.Facts.{of_z-to_z}

pub returns-then-line-row-clause-and_back : goal.returns-then-line-row-clause-and_back
returns-then-line-row-clause-and_back c = of_z-to_z c.if-line-row.element_fits
