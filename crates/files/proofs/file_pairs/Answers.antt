-- `files::file_pairs` meets its contract. Assumes nothing.
use Rattle.files.proofs.file_pairs.Goals as goal
use mathlib.Core.Path.{sym}
use Rattle.files.proofs.Judged.{read_short, read_long}

pub returns-then-b-lt40 : goal.returns-then-b-lt40
returns-then-b-lt40 c = record { defined = sym (read_short c.args.b.now c.if-b-lt40.true) }

pub returns : goal.returns
returns c = record { defined = rw (c.pair_at.ensures.defined, c.pair_at-2.ensures.defined, c.pair_at-3.ensures.defined, c.pair_at-4.ensures.defined, c.pair_at-5.ensures.defined) (sym (read_long c.args.b.now c.if-b-lt40.false)) }
