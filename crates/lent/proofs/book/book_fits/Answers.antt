-- `book::book_fits` meets its contract. Assumes nothing.
use Rattle.lent.proofs.book.book_fits.Goals as goal
use lib.ListN.{length}
use Rattle.tables.specs.Tables.{book_fits}
use Rattle.lent.proofs.Verdicts.{book_fits_by}

pub returns : goal.returns
unfolding book_fits
returns c = record { defined = book_fits_by (length c.args.book.attributes.now) (length c.args.book.defaults.now) (length c.args.book.effects.now) (length c.args.book.modifiers.now) (length c.args.book.type_effects.now) (length c.args.book.buff_collections.now) }
