-- `files::pairs_in` meets its contract. Assumes nothing.
use Rattle.files.proofs.pairs_in.Goals as goal
use Rattle.files.proofs.Judged.{ten_read}

pub returns : goal.returns
returns c = record { defined = ten_read c.args.book.now c.args.fit.now c.file_pairs-k.ensures.defined c.file_pairs-f.ensures.defined }
