-- `files::book_verdict` meets its contract. Assumes nothing.
use Rattle.files.proofs.book_verdict.Goals as goal
use Rattle.shape.proofs.Scans.{passed, failed}
use Rattle.files.proofs.Judged.{held_book, header_bad, header_good_lem}

pub returns-then-not-book_header_good : goal.returns-then-not-book_header_good
returns-then-not-book_header_good c = record { defined = header_bad _ _ (failed c.book_header_good.ensures.defined c.if-not-book_header_good.true) }

pub book_shape-requires : goal.book_shape-requires
book_shape-requires c = record { held_book = held_book _ _ (passed c.book_header_good.ensures.defined c.if-not-book_header_good.false) }

pub returns : goal.returns
returns c = record { defined = header_good_lem _ _ (passed c.book_header_good.ensures.defined c.if-not-book_header_good.false) c.book_shape.ensures.defined }
