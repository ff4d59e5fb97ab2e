-- `fit::fit_fits` meets its contract. Assumes nothing.
use Rattle.lent.proofs.fit.fit_fits.Goals as goal
use lib.ListN.{length}
use lib.Dec.{leb}
use Rattle.tables.specs.Tables.{fit_fits}
use Rattle.laws.proofs.Bools.{and_true_right}
use Rattle.std.proofs.Common.{rules}

pub returns : goal.returns
unfolding fit_fits
returns c = record { defined = rw (and_true_right (leb (length c.args.fit.asks.now) 1024)) (search rules) }
